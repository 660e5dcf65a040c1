use Rattle.std.proofs.Common.{◌≡◌, ◌+◌, ◌-◌, ◌*◌, ◌/◌, ◌<◌, ◌≤◌}
use Rattle.bit_lists.specs.Bits.{digit_count}
use Rattle.digits.specs.Digits.{digits_of, digits_before}
use Rattle.digits.specs.Search.{IsAmongCounts}
use Rattle.digits.specs.Tables.{HasDigitTables}
use Rattle.digits.proofs.selecting.last_entry.Given as goal

-- some entry is left, and the last one is among those left if the tables are right; no more reads than halvings
abbrev pub invariant-loop-left : goal.invariant-loop-left
invariant-loop-left g l =
    let S = g.S.DigitSource in
    let lists = S.lists l.fn.source in
    let last = lists.len / 224 / 256 in
    record {
      some : 0 < l.left;
      bound : l.low + l.left ≤ last + 1;
      among : HasDigitTables lists
          → IsAmongCounts (λ e. digits_before l.digit (digits_of lists.lines) (224 * (256 * e))) 0 (last + 1) l.rank l.low l.left;
      numbers : (S.reads l.source).numbers + digit_count (l.left - 1) ≤ (S.reads l.fn.source).numbers + digit_count last;
      numbers_kept : (S.reads l.fn.source).numbers ≤ (S.reads l.source).numbers;
      lines : (S.reads l.source).lines ≡ (S.reads l.fn.source).lines;
      same : S.lists l.source ≡ lists;
    }

abbrev pub decreases-loop-left : goal.decreases-loop-left
decreases-loop-left g l = l.left
