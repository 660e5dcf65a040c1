use Rattle.std.proofs.lemmas.List.Sorted.{IsNonDecreasingBy-from_sort}
use Rattle.program_files.proofs.texts.all_positions.positions.Goals as goal

pub returns-clause-answer : goal.returns-clause-answer
returns-clause-answer c = λ h. record {
  found = c.in_ok-found.found.items;
  are = c.in_ok-found.ensures.answer h;
  same = c.sort_unstable.ensures.permutation;
  rising = IsNonDecreasingBy-from_sort (λ x. x) _ c.sort_unstable.ensures.sorted;
}

pub returns-clause-rising : goal.returns-clause-rising
returns-clause-rising c = IsNonDecreasingBy-from_sort (λ x. x) _ c.sort_unstable.ensures.sorted
