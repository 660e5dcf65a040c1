use Rattle.std.proofs.Common.{◌≡◌, ◌+◌, ◌-◌, ◌*◌, ◌/◌, ◌<◌, ◌≤◌, ℕ, List, max, slice_index}
use Rattle.bit_lists.specs.Count.{ones_before}
use Rattle.bitm_tables.specs.Reads.{ReadsAtMost}
use Rattle.bitm_tables.specs.Tables.{bits_in}
use Rattle.elias_fano.specs.Low.{ReadsFragments}
use Rattle.elias_fano.specs.Parts.{ArePartsOf}
use Rattle.elias_fano_view.specs.Lists.{AreItemsFrom}
use Rattle.elias_fano_view.proofs.sequence.items.write_items_on.Given as goal

-- the numbers of the words so far are written, and each of these words was read once
abbrev pub invariant-loop-at : goal.invariant-loop-at
invariant-loop-at g l =
    let lists = g.T.TableSource.lists l.fn.source in
    let b = bits_in lists in
    record {
      count : ones_before b (max l.first (64 * l.at)) ≡ ones_before b l.first + l.done;
      most : l.done ≤ l.most;
      more : 0 < l.most → l.done < l.most;
      items : (xs : List ℕ) (n : ℕ) → ArePartsOf xs n l.initial.low.width l.initial.low.words lists.words → l.from + l.most ≤ n
          → ones_before b l.first ≡ l.from → AreItemsFrom xs l.from l.done l.out;
      kept : (j : ℕ) → l.done ≤ j → slice_index l.out j ≡ slice_index l.initial.out j;
      fragments : ReadsFragments l.initial.low l.low l.done;
      same : g.T.TableSource.lists l.source ≡ lists;
      reads : ReadsAtMost (g.T.TableSource.reads l.fn.source) (g.T.TableSource.reads l.source) 0 0 (l.at - l.first / 64);
    }
