-- Sorted numbers are a sequence, and what was made are its parts.
use Rattle.std.proofs.Common.{ℕ, ◌<◌, ◌^◌, List, length, get_or, refl, ap, sym, subst, arith}
use Rattle.std.specs.Box.{boxed_slice_items}
use Rattle.elias_fano.proofs.lemmas.ItemLemmas.{items_of-is, parts_of_items, upper-short}
use Rattle.elias_fano.proofs.lemmas.SequenceLemmas.{is_sequence}
use Rattle.elias_fano.proofs.lemmas.SizeLemmas.{width-small, words_few}
use Rattle.elias_fano.specs.Parts.{ArePartsOf}
use Rattle.elias_fano.specs.Sequence.{IsSequence}
use Rattle.elias_fano.proofs.sequence.Sequence.build.Goals as goal
use Rattle.elias_fano.proofs.sequence.Sequence.build.Goals.{After-width_for-width, In_ok-upper, In-Ok}

sequence : (g : _) (c : After-width_for-width g) → IsSequence c.args.items.now
sequence g c =
    let fits : (k : ℕ) → get_or c.args.items.now k 0 < 2 ^ 64 = λ k. omega (arith, c.type_inv.items k) in
    is_sequence c.args.items.now c.in_ok-check.ensures.short c.in_ok-check.ensures.rising fits

pub make_low-requires-clause-sequence : goal.make_low-requires-clause-sequence
make_low-requires-clause-sequence g c = sequence g c

pub make_low-requires-clause-width : goal.make_low-requires-clause-width
make_low-requires-clause-width g c = omega (arith, width-small c.args.items.now (sequence g c).small)

pub make_upper-requires-clause-sequence : goal.make_upper-requires-clause-sequence
make_upper-requires-clause-sequence g c = sequence g (goal.at.make_upper-requires-clause-sequence g c).After-width_for-width

parts : (g : _) (c : In_ok-upper g)
    → ArePartsOf c.args.items.now (length c.args.items.now) c.width_for-width.result
    (boxed_slice_items c.in_ok-low.low) (boxed_slice_items c.in_ok-upper.upper)
parts g c = record {
  sequence = sequence g (goal.at.build-requires g c).After-width_for-width;
  count = refl;
  width = c.width_for-width.ensures;
  low_is = c.in_ok-low.ensures;
  upper_is = c.in_ok-upper.ensures;
}

pub build-requires : goal.build-requires
build-requires g c = upper-short _ _ _ _ _ (parts g c)

-- the index keeps the upper words
held : (g : _) (c : In-Ok g)
    → ArePartsOf c.args.items.now (length c.args.items.now) c.width_for-width.result
    (boxed_slice_items c.in_ok-low.low) (boxed_slice_items c.in-Ok.upper.content)
held g c =
    let P : List ℕ → Type 0 =
    λ ws. ArePartsOf c.args.items.now (length c.args.items.now) c.width_for-width.result (boxed_slice_items c.in_ok-low.low) ws in
    subst P (sym (ap boxed_slice_items c.in-Ok.ensures.kept)) (parts g (goal.at.invariant_of-result g c).In_ok-upper)

pub invariant_of-result : goal.invariant_of-result
invariant_of-result g c = parts_of_items c.args.items.now _ _ _ _ (held g c)

pub returns-in-Ok-clause-ok : goal.returns-in-Ok-clause-ok
returns-in-Ok-clause-ok g c = items_of-is _ _ _ _ _ (held g c)

pub returns-in-Ok-clause-size : goal.returns-in-Ok-clause-size
returns-in-Ok-clause-size g c = words_few _
