-- One more start is kept.
use Rattle.std.proofs.Common.{◌≡◌, ℕ, ◌+◌, ◌-◌, ◌*◌, ◌%◌, ◌^◌, ◌<◌, ◌≤◌, List, length, get_or, refl, subst, sym, ap, ◌∙◌, arith}
use Rattle.std.proofs.lemmas.List.{length_push}
use Rattle.std.proofs.Math.Nat.{pow-le-pow_right}
use Rattle.std.specs.Box.{boxed_slice_items}
use Rattle.bitm_tables.specs.Tables.{Lists, bits_in}
use Rattle.matrix_levels.specs.Levels.{level_position}
use Rattle.matrix_levels.specs.Matrix.{IsMatrix, IsMatrixOf, LevelTables, numbers_in}
use Rattle.matrix_levels.proofs.lemmas.MakeLemmas.{each-push}
use Rattle.matrix_levels.proofs.lemmas.MatrixLemmas.{matrix-with-starts}
use Rattle.matrix_levels.proofs.lemmas.StartLemmas.{start-of-begin}
use Rattle.levels_view.proofs.LevelLemmas.{found-some, found-start}
use Rattle.levels_view.proofs.owned.Levels.keep_starts.Goals as goal

pub unreachable-requires : goal.unreachable-requires
unreachable-requires g c =
    let l = c.args.self.now in
    found-some l c.lend-levels.result (g.T.TableSource.lists c.loop-begin.source) _ _ _ c.lend-levels.ensures
    (subst (λ (m : Lists). IsMatrix l m) (sym c.loop-begin.invariant.same) c.requires.matrix) c.in-None.is c.total_position_on.ensures.position

pub loop-begin-preserved : goal.loop-begin-preserved
loop-begin-preserved g c =
    let T = g.T.TableSource in
    let l = c.args.self.now in
    let h = c.requires.matrix.numbers in
    let i = c.loop-begin.invariant in
    let d = c.args.known in
    let xs = numbers_in l (T.lists c.args.source.now) in
    let few : 2 ^ d ≤ 2 ^ 63 = pow-le-pow_right {n = 2} (omega arith) (let e : d ≤ 63 = omega (arith, c.requires.few) in e) in
    let less : c.loop-begin.begin < 2 ^ d = omega (arith, c.loop-begin-test.true, few) in
    let lists = T.lists c.loop-begin.source in
    record {
      count = ap (λ (m : List ℕ). length m) c.in_ok-push-in-Some.ensures.items ∙ length_push c.loop-begin.starts.items _ ∙ ap (λ (n : ℕ). n + 1) i.count;
      starts = each-push (λ k s. s ≡ level_position xs l.width (k * 2 ^ (l.width - d)) d 0) c.loop-begin.starts.items _ _ c.loop-begin.begin
          c.in_ok-push-in-Some.ensures.items i.count i.starts
          (start-of-begin xs (numbers_in l (T.lists c.loop-begin.source)) l.width d c.loop-begin.begin _ _ c.in-Some.position
          (ap (λ (m : Lists). numbers_in l m) i.same) c.requires.most h.most less (ap (λ (w : ℕ). (w - d) % 64) c.width.ensures) refl
          (found-start l c.lend-levels.result lists _ d _ _ c.lend-levels.ensures (subst (λ (m : Lists). IsMatrix l m) (sym i.same) c.requires.matrix) c.in-Some.is
          c.total_position_on.ensures.position));
      same = c.total_position_on.ensures.reads.same ∙ i.same;
    }

pub returns-clause-matrix : goal.returns-clause-matrix
returns-clause-matrix g c =
    let l = c.args.self.now in
    let d = c.args.known in
    let i = c.loop-begin.invariant in
    let lists = g.T.TableSource.lists c.args.source.now in
    let xs = numbers_in l lists in
    let few : 2 ^ d ≤ 2 ^ 63 = pow-le-pow_right {n = 2} (omega arith) (let e : d ≤ 63 = omega (arith, c.requires.few) in e) in
    let starts = boxed_slice_items c.into_boxed_slice.result in
    let items : starts ≡ c.loop-begin.starts.items = c.into_boxed_slice.ensures.items in
    let all : c.loop-begin.begin ≡ 2 ^ d = omega (arith, c.loop-begin-test.false, c.loop-begin.auto.begin-end, few) in
    let P : LevelTables → Type 0 = λ m. IsMatrixOf xs (record m { known = d; starts = starts }) (bits_in lists) in
    subst P (sym c.self.view_is)
    (matrix-with-starts xs l (bits_in lists) d starts c.requires.matrix.numbers c.requires.most
    (ap (λ (m : List ℕ). length m) items ∙ i.count ∙ all)
    (λ h less. ap (λ (m : List ℕ). get_or m h 0) items ∙ i.starts h (omega (arith, less, all))))
