use Rattle.std.proofs.Common.{◌≡◌, ℕ, ◌+◌, ◌-◌, ◌≤◌, List, count_ones, slice_index}
use Rattle.bit_lists.specs.Bits.{bits_of}
use Rattle.bit_lists.specs.Count.{ones_before}
use Rattle.elias_fano.specs.Low.{ReadsFragments}
use Rattle.elias_fano.specs.Parts.{ArePartsOf}
use Rattle.elias_fano_view.specs.Lists.{AreItemsFrom}
use Rattle.elias_fano_view.specs.Rests.{IsRestFrom}
use Rattle.elias_fano_view.proofs.sequence.items.write_ones_of.Given as goal

-- the numbers so far are written, and what is left has the other 1 bits
abbrev pub invariant-loop-k : goal.invariant-loop-k
invariant-loop-k l = record {
  ones : l.end ≤ l.k + count_ones l.left;
  rests : (upper : List ℕ) (index : ℕ) → IsRestFrom upper index l.at l.rest
      → (next : ℕ) × IsRestFrom upper next l.at l.left
      × (ones_before (bits_of upper) next ≡ ones_before (bits_of upper) index + (l.k - l.begin));
  items : (xs : List ℕ) (n : ℕ) (upper : List ℕ) (index : ℕ) → ArePartsOf xs n l.initial.low.width l.initial.low.words upper
      → l.from + l.end ≤ n → IsRestFrom upper index l.at l.rest → ones_before (bits_of upper) index ≡ l.from + l.begin
      → AreItemsFrom xs l.from l.begin l.initial.out → AreItemsFrom xs l.from l.k l.out;
  kept : (j : ℕ) → l.k ≤ j → slice_index l.out j ≡ slice_index l.initial.out j;
  fragments : ReadsFragments l.initial.low l.low (l.k - l.begin);
}
