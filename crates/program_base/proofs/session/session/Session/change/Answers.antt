use Rattle.std.proofs.Common.{◌≡◌, ◌<◌, length, set, arith, ap, sym, ◌∙◌}
use Rattle.std.proofs.lemmas.List.{take_at}
use Rattle.std.specs.Box.{boxed_slice_items, boxed_slice_len, boxed_slice_with_items}
use Rattle.program_base.specs.Session.{State}
use Rattle.bitm.specs.Bits.{bits_of}
use Rattle.bitm.proofs.Callers.{length-bits_of, with_number-one}
use Rattle.program_base.proofs.lemmas.SessionLemmas.{changed_inside}
use Rattle.program_base.proofs.session.session.Session.change.Goals as goal

pub returns-clause-state : goal.returns-clause-state
returns-clause-state c =
    let words : c.as_mut_slice.result.now ≡ boxed_slice_items c.self.inside.words = c.as_mut_slice.ensures.value in
    let here : c.args.self.now.bits ≡ bits_of (boxed_slice_items c.self.inside.words) = ap (λ (s : State). s.bits) (sym c.self.view_is) in
    let inside : c.args.position < length c.args.self.now.bits = omega (arith, ap length here, length-bits_of (boxed_slice_items c.self.inside.words), c.self.inside.words.items.ok.0) in
    let after : bits_of (boxed_slice_items (boxed_slice_with_items c.self.inside.words c.set_bit_to.new.words)) ≡ set c.args.self.now.bits c.args.position c.args.value =
    ap bits_of (take_at c.set_bit_to.new.words _ (boxed_slice_len c.self.inside.words) (omega (arith, c.self.inside.words.items.ok.0, ap length words, c.set_bit_to.auto)))
    ∙ c.set_bit_to.ensures
    ∙ with_number-one (bits_of c.as_mut_slice.result.now) c.args.position c.args.value
    (omega (arith, ap length words, length-bits_of c.as_mut_slice.result.now, length-bits_of (boxed_slice_items c.self.inside.words), ap length here))
    ∙ ap (λ l. set (bits_of l) c.args.position c.args.value) words
    ∙ ap (λ l. set l c.args.position c.args.value) (sym here) in
    changed_inside c.args.self.now c.args.position c.args.value _ inside after
