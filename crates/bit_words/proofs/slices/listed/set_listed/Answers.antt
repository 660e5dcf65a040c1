-- One more position: it is past the bits, or its bit is written.
use Rattle.std.proofs.Common.{◌≡◌, ◌+◌, ℕ, true, false, List, [], ◌∷◌, ◌++◌, get_or, take, nat_le, subst, sym, ap, ◌∙◌, arith}
use Rattle.std.proofs.lemmas.Bool.Decides.{nat_tests}
use Rattle.std.proofs.lemmas.List.{take_more}
use Rattle.std.proofs.lemmas.List.Sums.{count_by_more_no, count_by_more_yes}
use Rattle.bit_lists.proofs.lemmas.BitsLemmas.{length-bits_of}
use Rattle.bit_lists.specs.Bits.{bits_of}
use Rattle.bit_lists.specs.Count.{as_bit}
use Rattle.bit_words.proofs.lemmas.ListedLemmas.{digit_of_kind, listed_more, listed_past}
use Rattle.bit_words.specs.Listed.{IsSetAt}
use Rattle.bit_words.proofs.slices.listed.set_listed.Goals as goal
use Rattle.bit_words.proofs.slices.listed.set_listed.Goals.{then-position-len, else-position-len}

pub loop-position-preserved : goal.loop-position-preserved
loop-position-preserved g c =
    let i = c.loop-position.invariant in
    let n = c.args.len in
    let v = as_bit g.row.BIT in
    let b = bits_of c.args.words.now in
    let at = c.loop-position.position-index in
    let xs = c.args.positions.now in
    let p = get_or xs at 0 in
    let more = take_more xs at 0 (omega arith) in
    elim c.if-position-len.branch [
      | then-position-len w ↦
          let test : nat_le n p ≡ false = grind (arith, nat_tests) in
          record {
            outside = w.outside-is ∙ i.outside ∙ sym (count_by_more_no (λ (k : ℕ). nat_le n k) xs at 0 (omega arith) test);
            bits = subst (λ (ps : List ℕ). IsSetAt b n v ps (bits_of c.if-position-len.words)) (sym more)
                (listed_more b (bits_of c.loop-position.words) n v (take at xs) p i.bits _ (bits_of c.if-position-len.words) (omega arith)
                (omega (arith, c.requires, length-bits_of c.args.words.now)) (ap bits_of w.words-is ∙ w.set_bit_to.ensures) (digit_of_kind g.row.BIT));
          }
      | else-position-len w ↦
          let test : nat_le n p ≡ true = grind (arith, nat_tests) in
          record {
            outside = w.outside-is ∙ ap (λ (k : ℕ). k + 1) i.outside ∙ sym (count_by_more_yes (λ (k : ℕ). nat_le n k) xs at 0 (omega arith) test);
            bits = subst (λ (ps : List ℕ). IsSetAt b n v ps (bits_of c.if-position-len.words)) (sym more)
                (subst (λ (ws : List ℕ). IsSetAt b n v (take at xs ++ p ∷ []) (bits_of ws)) (sym w.words-is)
                (listed_past b (bits_of c.loop-position.words) n v (take at xs) p i.bits (omega arith)));
          }
    ]
