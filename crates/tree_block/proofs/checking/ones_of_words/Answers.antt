-- The lead before a word is what its zeros have to keep.
use Rattle.std.proofs.Common.{rules, ◌≡◌, ◌+◌, ◌-◌, ◌*◌, ◌^◌, ◌<◌, ℕ, count_ones, List, get_or, length, ap, subst, sym, true, false, arith, mod-eq_of_lt}
use Rattle.bit_lists.specs.Bits.{bits_of}
use Rattle.bit_lists.specs.Count.{ones_before}
use Rattle.bit_lists.proofs.BitLaws.{none_before_the_first}
use Rattle.bit_lists.proofs.lemmas.CountLemmas.{ones_before-bits_of_in_word}
use Rattle.tree_block.specs.Check.{OnesLead}
use Rattle.tree_block.proofs.CheckLemmas.{keeps_where_leads, leads_fewer, leads_on, ones_few, ones_left}
use Rattle.tree_block.proofs.checking.ones_of_words.Goals as goal

pub loop-i-init : goal.loop-i-init
loop-i-init c = record {
  leads = λ p less none. absurd (omega (arith, less));
  ones = sym (none_before_the_first (bits_of c.args.words.now) true);
}

pub overflow_mul-ones : goal.overflow_mul-ones
overflow_mul-ones c = record {
  fits = omega (arith, c.loop-i.invariant.ones, ones_few c.args.words.now (64 * c.loop-i.i) (omega (arith, c.loop-i-test.true, c.requires.within)), c.loop-i-test.true, c.requires.within, c.requires.short);
}

pub overflow_sub-ones : goal.overflow_sub-ones
overflow_sub-ones c =
    omega (arith, c.loop-i.invariant.ones, ones_left c.args.words.now c.loop-i.i (omega (arith, c.loop-i-test.true, c.requires.within)) c.loop-i.invariant.leads)

module _ (words : List ℕ) (i ones : ℕ) (within : i < length words) (leads : OnesLead (bits_of words) (64 * i)) (are : ones ≡ ones_before (bits_of words) (64 * i)) where
  same : 2 * ones - 64 * i + 64 * i ≡ 2 * ones_before (bits_of words) (64 * i)
  same = omega (arith, are, ones_left words i (omega (arith, within)) leads)

  next : 64 * i + 64 ≡ 64 * (i + 1)
  next = omega arith

  more : get_or words i 0 < 2 ^ 64 → ones + count_ones (get_or words i 0) ≡ ones_before (bits_of words) (64 * (i + 1))
  more fits =
      omega (arith, are, ones_before-bits_of_in_word words i within 64 (omega arith), ap count_ones (mod-eq_of_lt fits), ap (ones_before (bits_of words)) next)

pub returns-then-not-keeps_lead : goal.returns-then-not-keeps_lead
returns-then-not-keeps_lead c =
    let words = c.args.words.now in
    let i = c.loop-i.i in
    let inside : i < length words = omega (arith, c.loop-i-test.true, c.requires.within) in
    λ leads.
    let both : false ≡ true =
    c.if-not-keeps_lead.ensures.1
    (keeps_where_leads words i 64 (2 * c.loop-i.ones - 64 * i) inside (omega arith) (same words i c.loop-i.ones inside c.loop-i.invariant.leads c.loop-i.invariant.ones)
    (leads_fewer (bits_of words) (64 * i + 64) (64 * c.args.len) (omega (arith, c.loop-i-test.true)) leads)) in
    cc

pub overflow_add-ones : goal.overflow_add-ones
overflow_add-ones c =
    let words = c.args.words.now in
    let i = c.loop-i.i in
    let inside : i < length words = omega (arith, c.loop-i-test.true, c.requires.within) in
    record {
      fits = omega (arith, more words i c.loop-i.ones inside c.loop-i.invariant.leads c.loop-i.invariant.ones (c.type_inv.words i).fits, ones_few words (64 * (i + 1)) (omega (arith, inside)), inside, c.requires.short);
    }

pub loop-i-preserved : goal.loop-i-preserved
loop-i-preserved c =
    let words = c.args.words.now in
    let i = c.loop-i.i in
    let inside : i < length words = omega (arith, c.loop-i-test.true, c.requires.within) in
    record {
      leads =
          subst (OnesLead (bits_of words)) (next words i c.loop-i.ones inside c.loop-i.invariant.leads c.loop-i.invariant.ones)
          (leads_on words i 64 (2 * c.loop-i.ones - 64 * i) inside (omega arith) (same words i c.loop-i.ones inside c.loop-i.invariant.leads c.loop-i.invariant.ones)
          c.loop-i.invariant.leads (c.if-not-keeps_lead.ensures.0 (search rules)));
      ones = more words i c.loop-i.ones inside c.loop-i.invariant.leads c.loop-i.invariant.ones (c.type_inv.words i).fits;
    }
