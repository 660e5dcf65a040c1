-- Both halves are walked, and what they share is what both ranges share.
use Rattle.std.proofs.Common.{◌≡◌, ℕ, ◌+◌, ◌-◌, ◌*◌, ◌<◌, true, false, [], ◌∷◌, slice_range, sym, ap, ◌∙◌, subst, arith}
use Rattle.std.proofs.lemmas.Result.{IfOk-weaker}
use Rattle.bitm_tables.specs.Tables.{Lists}
use Rattle.matrix_levels.specs.Levels.{ArePositionsAfter, level}
use Rattle.matrix_levels.specs.Matrix.{IsMatrix, digit_position, level_in, numbers_in}
use Rattle.matrix_levels.specs.Shared.{AddsShared, shared_prefixes}
use Rattle.matrix_levels.proofs.lemmas.PrefixLemmas.{with_digit}
use Rattle.matrix_levels.proofs.lemmas.ReadsLemmas.{ranks-more}
use Rattle.matrix_levels.proofs.lemmas.SharedLemmas.{adds-these, shared-one, begin-last, begin-there, length-of-part, more-fits, walk-adds, walk-prefixes}
use Rattle.levels_view.proofs.levels.LevelsView.+add_shared_on.Goals as goal

-- all items of both are the number
pub returns-then-depth-width-clause-found : goal.returns-then-depth-width-clause-found
returns-then-depth-width-clause-found g t c =
    let l = c.args.self.now in
    let xs = numbers_in l (g.T.TableSource.lists c.args.source.now) in
    let d = c.args.depth in
    let e : d ≡ l.width = omega (arith, c.if-depth-width.true, c.width.ensures.width) in
    let firsts = slice_range (level xs l.width d) c.args.first.start c.args.first.end in
    let seconds = slice_range (level xs l.width d) c.args.second.start c.args.second.end in
    adds-these firsts seconds c.args.found.now.items c.push.new.self.items (c.args.prefix ∷ []) c.in_ok-push.ensures.items
    (shared-one firsts seconds c.args.prefix
    (omega (arith, length-of-part xs l.width d c.args.prefix c.args.first.start c.args.first.end c.requires.first, c.if-first.false))
    (omega (arith, length-of-part xs l.width d c.args.prefix c.args.second.start c.args.second.end c.requires.second, c.if-second.false))
    (begin-last xs l.width d c.args.prefix c.args.first.start c.args.first.end c.requires.first e)
    (begin-last xs l.width d c.args.prefix c.args.second.start c.args.second.end c.requires.second e))

-- the half of both ranges that goes on with a 0
pub add_shared_on-requires : goal.add_shared_on-requires
add_shared_on-requires g t c κs within =
    let l = c.args.self.now in
    let L = g.T.TableSource.lists in
    let d = c.args.depth in
    let h = c.args.prefix in
    let xs = numbers_in l (L c.args.source.now) in
    let less : d < l.width = omega (arith, c.requires.depth, c.if-depth-width.false, c.width.ensures.width) in
    let same1 : L c.total_halves_on.new.source ≡ L c.args.source.now = c.total_halves_on.ensures.reads.same in
    let M : Lists → Type 0 = λ m. IsMatrix l m in
    let halves = c.in-Some.ensures.halves c.requires.matrix in
    let others = c.in-Some-total_halves_on.ensures.halves (subst M (sym same1) c.requires.matrix) in
    let same2 : L c.total_halves_on-2.new.source ≡ L c.args.source.now = c.total_halves_on-2.ensures.reads.same ∙ same1 in
    let A : Lists → Type 0 = λ m. ArePositionsAfter (digit_position l d) false (level_in l m d) c.args.second.start c.args.second.end c.in-Some-total_halves_on.second_zeros.start c.in-Some-total_halves_on.second_zeros.end in
    let numbers = ap (numbers_in l) same2 in
    let digits : 2 * h ≡ with_digit h false = omega arith in (
      omega arith,
      (
        within,
        (
          subst M (sym same2) c.requires.matrix,
          (
            omega (arith, less),
            (
              (more-fits h d c.requires.prefix).0,
              (
                begin-there xs _ l.width d h (2 * h) c.args.first.start c.args.first.end c.in-Some.first_zeros.start c.in-Some.first_zeros.end false
                    c.requires.first less numbers digits halves.0,
                begin-there xs _ l.width d h (2 * h) c.args.second.start c.args.second.end c.in-Some-total_halves_on.second_zeros.start c.in-Some-total_halves_on.second_zeros.end false
                    c.requires.second less numbers digits (subst A same1 others.0),
              ),
            ),
          ),
        ),
      ),
    )

-- and with a 1
pub add_shared_on-requires-2 : goal.add_shared_on-requires-2
add_shared_on-requires-2 g t c κs within =
    let l = c.args.self.now in
    let L = g.T.TableSource.lists in
    let d = c.args.depth in
    let h = c.args.prefix in
    let xs = numbers_in l (L c.args.source.now) in
    let less : d < l.width = omega (arith, c.requires.depth, c.if-depth-width.false, c.width.ensures.width) in
    let same1 : L c.total_halves_on.new.source ≡ L c.args.source.now = c.total_halves_on.ensures.reads.same in
    let M : Lists → Type 0 = λ m. IsMatrix l m in
    let halves = c.in-Some.ensures.halves c.requires.matrix in
    let others = c.in-Some-total_halves_on.ensures.halves (subst M (sym same1) c.requires.matrix) in
    let same2 : L c.total_halves_on-2.new.source ≡ L c.args.source.now = c.total_halves_on-2.ensures.reads.same ∙ same1 in
    let same3 : L c.add_shared_on.new.source ≡ L c.args.source.now = c.add_shared_on.ensures.reads.same ∙ same2 in
    let A : Lists → Type 0 = λ m. ArePositionsAfter (digit_position l d) true (level_in l m d) c.args.second.start c.args.second.end c.in-Some-total_halves_on.second_ones.start c.in-Some-total_halves_on.second_ones.end in
    let numbers = ap (numbers_in l) same3 in
    let digits : 2 * h + 1 ≡ with_digit h true = omega arith in (
      omega arith,
      (
        within,
        (
          subst M (sym same3) c.requires.matrix,
          (
            omega (arith, less),
            (
              (more-fits h d c.requires.prefix).1,
              (
                begin-there xs _ l.width d h (2 * h + 1) c.args.first.start c.args.first.end c.in-Some.first_ones.start c.in-Some.first_ones.end true
                    c.requires.first less numbers digits halves.1,
                begin-there xs _ l.width d h (2 * h + 1) c.args.second.start c.args.second.end c.in-Some-total_halves_on.second_ones.start c.in-Some-total_halves_on.second_ones.end true
                    c.requires.second less numbers digits (subst A same1 others.1),
              ),
            ),
          ),
        ),
      ),
    )

pub returns-clause-found : goal.returns-clause-found
returns-clause-found g t c =
    let l = c.args.self.now in
    let L = g.T.TableSource.lists in
    let d = c.args.depth in
    let h = c.args.prefix in
    let xs = numbers_in l (L c.args.source.now) in
    let less : d < l.width = omega (arith, c.requires.depth, c.if-depth-width.false, c.width.ensures.width) in
    let same1 : L c.total_halves_on.new.source ≡ L c.args.source.now = c.total_halves_on.ensures.reads.same in
    let M : Lists → Type 0 = λ m. IsMatrix l m in
    let halves = c.in-Some.ensures.halves c.requires.matrix in
    let others = c.in-Some-total_halves_on.ensures.halves (subst M (sym same1) c.requires.matrix) in
    let same2 : L c.total_halves_on-2.new.source ≡ L c.args.source.now = c.total_halves_on-2.ensures.reads.same ∙ same1 in
    let same3 : L c.add_shared_on.new.source ≡ L c.args.source.now = c.add_shared_on.ensures.reads.same ∙ same2 in
    let A0 : Lists → Type 0 = λ m. ArePositionsAfter (digit_position l d) false (level_in l m d) c.args.second.start c.args.second.end c.in-Some-total_halves_on.second_zeros.start c.in-Some-total_halves_on.second_zeros.end in
    let A1 : Lists → Type 0 = λ m. ArePositionsAfter (digit_position l d) true (level_in l m d) c.args.second.start c.args.second.end c.in-Some-total_halves_on.second_ones.start c.in-Some-total_halves_on.second_ones.end in
    let Z : Lists → Type 0 = λ m. AddsShared (slice_range (level_in l m (d + 1)) c.in-Some.first_zeros.start c.in-Some.first_zeros.end)
    (slice_range (level_in l m (d + 1)) c.in-Some-total_halves_on.second_zeros.start c.in-Some-total_halves_on.second_zeros.end) c.args.found.now.items c.add_shared_on.new.found.items in
    let O : Lists → Type 0 = λ m. AddsShared (slice_range (level_in l m (d + 1)) c.in-Some.first_ones.start c.in-Some.first_ones.end)
    (slice_range (level_in l m (d + 1)) c.in-Some-total_halves_on.second_ones.start c.in-Some-total_halves_on.second_ones.end) c.add_shared_on.new.found.items c.add_shared_on-2.new.found.items in
    IfOk-weaker c.add_shared_on-2.result (λ _. O (L c.add_shared_on.new.source)) _
    (λ _ ones. walk-adds xs l.width d h c.args.first.start c.args.first.end c.args.second.start c.args.second.end c.requires.first c.requires.second less
    c.in-Some.first_zeros.start c.in-Some.first_zeros.end c.in-Some-total_halves_on.second_zeros.start c.in-Some-total_halves_on.second_zeros.end
    c.in-Some.first_ones.start c.in-Some.first_ones.end c.in-Some-total_halves_on.second_ones.start c.in-Some-total_halves_on.second_ones.end
    halves.0 (subst A0 same1 others.0) halves.1 (subst A1 same1 others.1)
    c.args.found.now.items c.add_shared_on.new.found.items c.add_shared_on-2.new.found.items
    (subst Z same2 c.in_ok-add_shared_on.ensures.found) (subst O same3 ones))
    c.add_shared_on-2.ensures.found

pub returns-in_err-add_shared_on-clause-reads : goal.returns-in_err-add_shared_on-clause-reads
returns-in_err-add_shared_on-clause-reads g t c =
    let l = c.args.self.now in
    let L = g.T.TableSource.lists in
    let d = c.args.depth in
    let h = c.args.prefix in
    let xs = numbers_in l (L c.args.source.now) in
    let less : d < l.width = omega (arith, c.requires.depth, c.if-depth-width.false, c.width.ensures.width) in
    let same1 : L c.total_halves_on.new.source ≡ L c.args.source.now = c.total_halves_on.ensures.reads.same in
    let M : Lists → Type 0 = λ m. IsMatrix l m in
    let halves = c.in-Some.ensures.halves c.requires.matrix in
    let others = c.in-Some-total_halves_on.ensures.halves (subst M (sym same1) c.requires.matrix) in
    let same2 : L c.total_halves_on-2.new.source ≡ L c.args.source.now = c.total_halves_on-2.ensures.reads.same ∙ same1 in
    let A0 : Lists → Type 0 = λ m. ArePositionsAfter (digit_position l d) false (level_in l m d) c.args.second.start c.args.second.end c.in-Some-total_halves_on.second_zeros.start c.in-Some-total_halves_on.second_zeros.end in
    let A1 : Lists → Type 0 = λ m. ArePositionsAfter (digit_position l d) true (level_in l m d) c.args.second.start c.args.second.end c.in-Some-total_halves_on.second_ones.start c.in-Some-total_halves_on.second_ones.end in
    let walked = walk-prefixes xs l.width d h c.args.first.start c.args.first.end c.args.second.start c.args.second.end c.requires.first c.requires.second less
    c.in-Some.first_zeros.start c.in-Some.first_zeros.end c.in-Some-total_halves_on.second_zeros.start c.in-Some-total_halves_on.second_zeros.end
    c.in-Some.first_ones.start c.in-Some.first_ones.end c.in-Some-total_halves_on.second_ones.start c.in-Some-total_halves_on.second_ones.end
    halves.0 (subst A0 same1 others.0) halves.1 (subst A1 same1 others.1)
    c.if-first.false c.if-second.false in
    let S0 : Lists → ℕ = λ m. shared_prefixes (slice_range (level_in l m (d + 1)) c.in-Some.first_zeros.start c.in-Some.first_zeros.end)
    (slice_range (level_in l m (d + 1)) c.in-Some-total_halves_on.second_zeros.start c.in-Some-total_halves_on.second_zeros.end) (l.width - (d + 1)) in
    let S1 : Lists → ℕ = λ m. shared_prefixes (slice_range (level_in l m (d + 1)) c.in-Some.first_ones.start c.in-Some.first_ones.end)
    (slice_range (level_in l m (d + 1)) c.in-Some-total_halves_on.second_ones.start c.in-Some-total_halves_on.second_ones.end) (l.width - (d + 1)) in
    let R = g.T.TableSource.reads in
    let walk = shared_prefixes (slice_range (level xs l.width d) c.args.first.start c.args.first.end)
    (slice_range (level xs l.width d) c.args.second.start c.args.second.end) (l.width - d) in
    let both = ranks-more c.args.self.now L R c.args.source.now c.total_halves_on.new.source c.total_halves_on-2.new.source 2 2 4 c.total_halves_on.ensures.reads c.total_halves_on-2.ensures.reads (omega arith) in
    ranks-more c.args.self.now L R c.args.source.now c.total_halves_on-2.new.source c.add_shared_on.new.source 4 (4 * S0 (L c.total_halves_on-2.new.source)) (4 * walk) both c.add_shared_on.ensures.reads
    (omega (arith, walked, ap S0 same2))

pub returns-clause-reads : goal.returns-clause-reads
returns-clause-reads g t c =
    let l = c.args.self.now in
    let L = g.T.TableSource.lists in
    let d = c.args.depth in
    let h = c.args.prefix in
    let xs = numbers_in l (L c.args.source.now) in
    let less : d < l.width = omega (arith, c.requires.depth, c.if-depth-width.false, c.width.ensures.width) in
    let same1 : L c.total_halves_on.new.source ≡ L c.args.source.now = c.total_halves_on.ensures.reads.same in
    let M : Lists → Type 0 = λ m. IsMatrix l m in
    let halves = c.in-Some.ensures.halves c.requires.matrix in
    let others = c.in-Some-total_halves_on.ensures.halves (subst M (sym same1) c.requires.matrix) in
    let same2 : L c.total_halves_on-2.new.source ≡ L c.args.source.now = c.total_halves_on-2.ensures.reads.same ∙ same1 in
    let same3 : L c.add_shared_on.new.source ≡ L c.args.source.now = c.add_shared_on.ensures.reads.same ∙ same2 in
    let A0 : Lists → Type 0 = λ m. ArePositionsAfter (digit_position l d) false (level_in l m d) c.args.second.start c.args.second.end c.in-Some-total_halves_on.second_zeros.start c.in-Some-total_halves_on.second_zeros.end in
    let A1 : Lists → Type 0 = λ m. ArePositionsAfter (digit_position l d) true (level_in l m d) c.args.second.start c.args.second.end c.in-Some-total_halves_on.second_ones.start c.in-Some-total_halves_on.second_ones.end in
    let walked = walk-prefixes xs l.width d h c.args.first.start c.args.first.end c.args.second.start c.args.second.end c.requires.first c.requires.second less
    c.in-Some.first_zeros.start c.in-Some.first_zeros.end c.in-Some-total_halves_on.second_zeros.start c.in-Some-total_halves_on.second_zeros.end
    c.in-Some.first_ones.start c.in-Some.first_ones.end c.in-Some-total_halves_on.second_ones.start c.in-Some-total_halves_on.second_ones.end
    halves.0 (subst A0 same1 others.0) halves.1 (subst A1 same1 others.1)
    c.if-first.false c.if-second.false in
    let S0 : Lists → ℕ = λ m. shared_prefixes (slice_range (level_in l m (d + 1)) c.in-Some.first_zeros.start c.in-Some.first_zeros.end)
    (slice_range (level_in l m (d + 1)) c.in-Some-total_halves_on.second_zeros.start c.in-Some-total_halves_on.second_zeros.end) (l.width - (d + 1)) in
    let S1 : Lists → ℕ = λ m. shared_prefixes (slice_range (level_in l m (d + 1)) c.in-Some.first_ones.start c.in-Some.first_ones.end)
    (slice_range (level_in l m (d + 1)) c.in-Some-total_halves_on.second_ones.start c.in-Some-total_halves_on.second_ones.end) (l.width - (d + 1)) in
    let R = g.T.TableSource.reads in
    let walk = shared_prefixes (slice_range (level xs l.width d) c.args.first.start c.args.first.end)
    (slice_range (level xs l.width d) c.args.second.start c.args.second.end) (l.width - d) in
    let both = ranks-more c.args.self.now L R c.args.source.now c.total_halves_on.new.source c.total_halves_on-2.new.source 2 2 4 c.total_halves_on.ensures.reads c.total_halves_on-2.ensures.reads (omega arith) in
    let first = ranks-more c.args.self.now L R c.args.source.now c.total_halves_on-2.new.source c.add_shared_on.new.source 4 (4 * S0 (L c.total_halves_on-2.new.source)) (4 + 4 * S0 (L c.total_halves_on-2.new.source))
    both c.add_shared_on.ensures.reads (omega arith) in
    ranks-more c.args.self.now L R c.args.source.now c.add_shared_on.new.source c.add_shared_on-2.new.source (4 + 4 * S0 (L c.total_halves_on-2.new.source)) (4 * S1 (L c.add_shared_on.new.source)) (4 * walk) first c.add_shared_on-2.ensures.reads
    (omega (arith, walked, ap S0 same2, ap S1 same3))
