use Rattle.std.proofs.Common.{◌≡◌, ◌+◌, ◌-◌, ◌*◌, ◌/◌, ◌<◌, ◌≤◌, min}
use Rattle.bit_lists.specs.Bits.{digit_count}
use Rattle.digits.specs.Digits.{digits_of, digits_before}
use Rattle.digits.specs.Search.{IsAmongCounts}
use Rattle.digits.specs.Tables.{HasDigitTables}
use Rattle.digits.proofs.selecting.last_line.Given as goal

-- some line is left, and the last one is among those left if the tables are right; no more reads than halvings
abbrev pub invariant-loop-left : goal.invariant-loop-left
invariant-loop-left g l =
    let S = g.S.DigitSource in
    let lists = S.lists l.fn.source in
    let first = 256 * l.entry in
    let end = min (first + 256) (lists.len / 224 + 1) in
    record {
      some : 0 < l.left;
      from : first ≤ l.low;
      bound : l.low + l.left ≤ end;
      among : HasDigitTables lists → l.before ≤ l.rank
          → IsAmongCounts (λ k. digits_before l.digit (digits_of lists.lines) (224 * k)) first end l.rank l.low l.left;
      lines : (S.reads l.source).lines + digit_count (l.left - 1) ≤ (S.reads l.fn.source).lines + 8;
      lines_kept : (S.reads l.fn.source).lines ≤ (S.reads l.source).lines;
      numbers : (S.reads l.source).numbers ≡ (S.reads l.fn.source).numbers;
      same : S.lists l.source ≡ lists;
    }

abbrev pub decreases-loop-left : goal.decreases-loop-left
decreases-loop-left g l = l.left
