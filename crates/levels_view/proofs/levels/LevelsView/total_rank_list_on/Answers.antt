-- The ranks of a group follow those of the groups before.
use Rattle.std.proofs.Common.{◌≡◌, ℕ, ◌+◌, ◌-◌, ◌*◌, ◌<◌, ◌≤◌, ◌⊎◌, length, take, drop, slice_index, subst, sym, ◌∙◌, arith}
use Rattle.std.proofs.Math.Nat.{mul-le-mul_left}
use Rattle.bitm_tables.specs.declared.answer.Answer.TheVariants.{Absent, Found, Wrong}
use Rattle.bitm_tables.specs.Tables.{bits_in, HasSizes, Lists}
use Rattle.levels_view.specs.Walk.{IsRankAt}
use Rattle.bitm_select.proofs.lemmas.ManyLemmas.{part_item, part_long, put_long}
use Rattle.matrix_levels.specs.Matrix.{OnlyRanks}
use Rattle.matrix_levels.proofs.lemmas.ReadsLemmas.{ranks-fewer, ranks-more, ranks-none}
use Rattle.levels_view.proofs.ListLemmas.{answers_follow, kept_from}
use Rattle.levels_view.proofs.levels.LevelsView.total_rank_list_on.Goals as goal
use Rattle.levels_view.proofs.levels.LevelsView.total_rank_list_on.Goals.{After-total_rank_group_on-found}
use borrow.Rule.Slice.PartMut.{put_mid}

pub loop-from-init : goal.loop-from-init
loop-from-init g c =
    let T = g.T.TableSource in
    let l = c.args.self.now in
    let s = c.args.source.now in
    record {
      inside = omega arith;
      len = let e : length c.args.out.now ≡ length c.args.out.now = omega arith in e;
      ranks = λ j less. absurd (omega (arith, less));
      behind = λ j _. let e : slice_index c.args.out.now j ≡ slice_index c.args.out.now j = omega arith in e;
      reads = ranks-fewer l T.lists T.reads s s 0 ((2 * l.width - l.known) * 0) (ranks-none l T.lists T.reads s) (omega arith);
    }

pub total_rank_group_on-found-requires-clause-sized : goal.total_rank_group_on-found-requires-clause-sized
total_rank_group_on-found-requires-clause-sized g c = subst (λ (s : Lists). HasSizes s) (sym c.loop-from.invariant.reads.same) c.requires.sized

pub total_rank_group_on-found-requires-clause-room : goal.total_rank_group_on-found-requires-clause-room
total_rank_group_on-found-requires-clause-room g c =
    subst (λ (s : Lists). c.args.self.now.width * c.args.self.now.len ≤ length (bits_in s)) (sym c.loop-from.invariant.reads.same) c.requires.room

some : (g : _) (c : After-total_rank_group_on-found g) → c.loop-from.from + c.min.result ≤ length c.args.numbers.now
some g c = omega (arith, c.min.ensures, c.loop-from.invariant.inside, c.loop-from-test.true)

inside : (g : _) (c : After-total_rank_group_on-found g) → c.loop-from.from + c.min.result ≤ length c.loop-from.out
inside g c = omega (arith, some g c, c.loop-from.invariant.len, c.requires.out)

long : (g : _) (c : After-total_rank_group_on-found g) → length c.total_rank_group_on-found.new.out ≡ c.min.result
long g c = c.total_rank_group_on-found.ensures.len ∙ part_long c.loop-from.out c.loop-from.from c.min.result (inside g c)

most : (g : _) (c : After-total_rank_group_on-found g) → c.total_rank_group_on-found.result ≤ c.min.result
most g c = omega (arith, c.total_rank_group_on-found.ensures.most, part_long c.args.numbers.now c.loop-from.from c.min.result (some g c))

ranks : (g : _) (c : After-total_rank_group_on-found g) → (j : ℕ) → j < c.loop-from.from + c.total_rank_group_on-found.result
    → IsRankAt c.args.self.now (g.T.TableSource.lists c.args.source.now) (slice_index c.args.numbers.now j) (slice_index c.args.ends.now j)
    (Found (slice_index (put_mid c.loop-from.from (c.loop-from.from + c.min.result - c.loop-from.from) c.loop-from.out c.total_rank_group_on-found.new.out) j))
ranks g c =
    let l = c.args.self.now in
    let same = c.loop-from.invariant.reads.same in
    let lists = g.T.TableSource.lists c.args.source.now in
    let from = c.loop-from.from in
    let n = c.min.result in
    let new = c.total_rank_group_on-found.new.out in
    answers_follow from n c.total_rank_group_on-found.result (most g c) c.loop-from.out new (inside g c) (long g c)
    (λ j x. IsRankAt l lists (slice_index c.args.numbers.now j) (slice_index c.args.ends.now j) (Found x)) c.loop-from.invariant.ranks
    (λ j less.
    let near : j < n = omega (arith, less, most g c) in
    let seen = g.T.TableSource.lists c.loop-from.source in
    let one = part_item c.args.numbers.now from n j near in
    let two = part_item c.args.ends.now from n j near in
    let Q : ℕ → ℕ → Type 0 = λ v i. IsRankAt l seen v i (Found (slice_index new j)) in
    let there = subst (Q (slice_index c.args.numbers.now (from + j))) two (subst (λ v. Q v (slice_index (take (from + n - from) (drop from c.args.ends.now)) j)) one (c.total_rank_group_on-found.ensures.ranks j less)) in
    subst (λ (s : Lists). IsRankAt l s (slice_index c.args.numbers.now (from + j)) (slice_index c.args.ends.now (from + j)) (Found (slice_index new j))) same there)

behind : (g : _) (c : After-total_rank_group_on-found g) → (j : ℕ) → c.loop-from.from + c.total_rank_group_on-found.result ≤ j
    → slice_index (put_mid c.loop-from.from (c.loop-from.from + c.min.result - c.loop-from.from) c.loop-from.out c.total_rank_group_on-found.new.out) j
    ≡ slice_index c.args.out.now j
behind g c =
    kept_from c.loop-from.from c.min.result c.total_rank_group_on-found.result (most g c) c.loop-from.out c.total_rank_group_on-found.new.out (inside g c) (long g c) c.args.out.now
    c.loop-from.invariant.behind c.total_rank_group_on-found.ensures.behind

reads : (g : _) (c : After-total_rank_group_on-found g)
    → OnlyRanks c.args.self.now g.T.TableSource.lists g.T.TableSource.reads c.args.source.now c.total_rank_group_on-found.new.source
    ((2 * c.args.self.now.width - c.args.self.now.known) * (c.loop-from.from + c.min.result))
reads g c =
    let T = g.T.TableSource in
    let l = c.args.self.now in
    let m = (2 * l.width - l.known) in
    let from = c.loop-from.from in
    let n = c.min.result in
    let P : ℕ → Type 0 = λ k. OnlyRanks l T.lists T.reads c.loop-from.source c.total_rank_group_on-found.new.source (m * k) in
    ranks-more l T.lists T.reads c.args.source.now c.loop-from.source c.total_rank_group_on-found.new.source (m * from) (m * n) (m * (from + n)) c.loop-from.invariant.reads
    (subst P (part_long c.args.numbers.now from n (some g c)) c.total_rank_group_on-found.ensures.reads) (omega arith)

pub returns-then-found-to-clause-ranks : goal.returns-then-found-to-clause-ranks
returns-then-found-to-clause-ranks g c = ranks g (goal.at.returns-then-found-to-clause-ranks g c).After-total_rank_group_on-found

pub returns-then-found-to-clause-behind : goal.returns-then-found-to-clause-behind
returns-then-found-to-clause-behind g c = behind g (goal.at.returns-then-found-to-clause-behind g c).After-total_rank_group_on-found

pub returns-then-found-to-clause-last : goal.returns-then-found-to-clause-last
returns-then-found-to-clause-last g c = λ _.
    let here = (goal.at.returns-then-found-to-clause-last g c).After-total_rank_group_on-found in
    let l = c.args.self.now in
    let from = c.loop-from.from in
    let n = c.min.result in
    let j = c.total_rank_group_on-found.result in
    let same = c.loop-from.invariant.reads.same in
    let near : j < n = omega (arith, c.if-found-to.true) in
    let one = part_item c.args.numbers.now from n j near in
    let two = part_item c.args.ends.now from n j near in
    let seen = g.T.TableSource.lists c.loop-from.source in
    let P : Lists → ℕ → ℕ → Type 0 = λ s v i. IsRankAt l s v i Absent ⊎ IsRankAt l s v i Wrong in
    subst (λ (s : Lists). P s (slice_index c.args.numbers.now (from + j)) (slice_index c.args.ends.now (from + j))) same
    (subst (P seen (slice_index c.args.numbers.now (from + j))) two
    (subst (λ v. P seen v (slice_index (take (from + n - from) (drop from c.args.ends.now)) j)) one
    (c.total_rank_group_on-found.ensures.last (omega (arith, near, part_long c.args.numbers.now from n (some g here))))))

pub returns-then-found-to-clause-reads : goal.returns-then-found-to-clause-reads
returns-then-found-to-clause-reads g c =
    let here = (goal.at.returns-then-found-to-clause-reads g c).After-total_rank_group_on-found in
    let T = g.T.TableSource in
    let l = c.args.self.now in
    ranks-fewer l T.lists T.reads c.args.source.now c.total_rank_group_on-found.new.source _ ((2 * l.width - l.known) * length c.args.numbers.now) (reads g here)
    (mul-le-mul_left ((2 * l.width - l.known)) (some g here))

pub loop-from-preserved : goal.loop-from-preserved
loop-from-preserved g c =
    let here = (goal.at.loop-from-preserved g c).After-total_rank_group_on-found in
    let all : c.total_rank_group_on-found.result ≡ c.min.result = omega (arith, c.if-found-to.false, most g here) in
    record {
      inside = some g here;
      len = put_long c.loop-from.from c.min.result c.loop-from.out c.total_rank_group_on-found.new.out (inside g here) (long g here) ∙ c.loop-from.invariant.len;
      ranks = λ j less. ranks g here j (omega (arith, less, all));
      behind = λ j from. behind g here j (omega (arith, from, all));
      reads = reads g here;
    }

pub returns-clause-reads : goal.returns-clause-reads
returns-clause-reads g c =
    let T = g.T.TableSource in
    let l = c.args.self.now in
    let all : c.loop-from.from ≡ length c.args.numbers.now = omega (arith, c.loop-from-test.false, c.loop-from.invariant.inside) in
    let P : ℕ → Type 0 = λ k. OnlyRanks l T.lists T.reads c.args.source.now c.loop-from.source ((2 * l.width - l.known) * k) in
    subst P all c.loop-from.invariant.reads
