use Rattle.std.proofs.Common.{◌≡◌, ℕ, ◌<◌, Some}
use Rattle.std.specs.List.{slice_index}
use Rattle.hash_block.specs.Dictionary.{number_of_key}
use Rattle.hash_block.proofs.dictionary.DictionaryView.are_own.Given as goal

-- the keys so far stand at their numbers
abbrev pub invariant-loop-i : goal.invariant-loop-i
invariant-loop-i l = record {
  own : (k : ℕ) → k < l.i → number_of_key l.self.hash (slice_index l.self.keys k) ≡ Some k;
}
