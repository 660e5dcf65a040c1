use Rattle.std.proofs.Common.{ℕ, ◌≤◌, All, subst, sym}
use Rattle.std.proofs.lemmas.List.Filters.{dedup_is, All-dedup}
use Rattle.std.proofs.lemmas.List.Sorted.{All-permutation}
use Rattle.std.proofs.lemmas.Map.Keys.{IsStrictlyIncreasing-dedup}
use Rattle.program_files.proofs.lemmas.LineLemmas.{all_positions-sorted}
use Rattle.program_files.proofs.texts.all_positions.all_positions.Goals as goal

pub returns-clause-answer : goal.returns-clause-answer
returns-clause-answer c = λ h.
    let is = dedup_is _ _ _ c.dedup.ensures.filtered in
    all_positions-sorted _ _ _ _ _ (c.in_ok-made.ensures.answer h) c.sort_unstable.ensures.permutation is
    (rw is (IsStrictlyIncreasing-dedup _ c.sort_unstable.ensures.sorted))

pub returns-clause-within : goal.returns-clause-within
returns-clause-within c =
    let is = dedup_is _ _ _ c.dedup.ensures.filtered in
    let P : ℕ → Type 0 = λ position. position ≤ c.args.text.now.tables.letters.len in
    subst (All P) (sym is) (All-dedup _ P _ (All-permutation P _ _ c.sort_unstable.ensures.permutation c.in_ok-made.ensures.within))

pub returns-clause-rising : goal.returns-clause-rising
returns-clause-rising c =
    let is = dedup_is _ _ _ c.dedup.ensures.filtered in
    rw is (IsStrictlyIncreasing-dedup _ c.sort_unstable.ensures.sorted)
