-- The number stands behind the bits that were there, over zeros.
use Rattle.std.proofs.Common.{◌≡◌, ◌+◌, ◌-◌, ◌%◌, ◌^◌, ℕ, List, min, bit_and, ◌++◌, length, take, drop, sym, ap, subst, ◌∙◌, arith, inl}
use Rattle.std.proofs.lemmas.Nat.{and_mask}
use Rattle.bit_lists.specs.Bits.{bits_of}
use Rattle.bit_lists.specs.Number.{number_at, with_number}
use Rattle.bitm_bits.specs.Appending.{AreFilledTo}
use Rattle.bitm_bits.proofs.lemmas.AppendLemmas.{appended, clear_before, filled_more, written_back}
use Rattle.bitm_bits.proofs.appending.append.Goals as goal

pub init_bits-requires-clause-clear : goal.init_bits-requires-clause-clear
init_bits-requires-clause-clear c =
    let room = c.in_ok-make_room.ensures.ok in
    inl (ap (λ w. number_at (bits_of w) c.args.len c.args.count) c.as_mut_slice.ensures.value
    ∙ clear_before c.make_room.new.words.items c.args.len c.args.count room.zeros)

-- the owner holds what the slice did
back : (c : goal.After-words-1)
    → take c.make_room.new.words.len (c.init_bits.new.words ++ drop (length c.init_bits.new.words) c.make_room.new.words.items) ≡ c.init_bits.new.words
back c = written_back c.make_room.new.words.items c.init_bits.new.words c.make_room.new.words.len (c.init_bits.auto.words ∙ c.as_mut_slice.ensures.len)

put : (c : goal.After-words-1) → bits_of c.init_bits.new.words
    ≡ with_number (bits_of c.make_room.new.words.items) c.args.len c.args.count (bit_and c.args.v c.n_lowest_bits_0_64.result)
put c = c.init_bits.ensures
    ∙ ap (λ w. with_number (bits_of w) c.args.len c.args.count (bit_and c.args.v c.n_lowest_bits_0_64.result)) c.as_mut_slice.ensures.value

low : (c : goal.After-words-1) → bit_and c.args.v c.n_lowest_bits_0_64.result ≡ c.args.v % 2 ^ c.args.count
low c =
    let least : min c.args.count 64 ≡ c.args.count = omega (arith, c.requires.most) in
    ap (bit_and c.args.v) (c.n_lowest_bits_0_64.ensures ∙ ap (λ k. 2 ^ k - 1) least) ∙ and_mask c.args.v c.args.count

pub returns-clause-bits : goal.returns-clause-bits
returns-clause-bits c =
    ap (λ w. take (c.args.len + c.args.count) (bits_of w)) (back c)
    ∙ appended _ _ _ c.args.len c.args.count c.args.v _ c.in_ok-make_room.ensures.ok (low c) (put c)

pub returns-clause-filled : goal.returns-clause-filled
returns-clause-filled c =
    let P : List ℕ → Type 0 = λ w. AreFilledTo w (c.args.len + c.args.count) in
    subst P (sym (back c)) (filled_more _ _ _ c.args.len c.args.count _ c.in_ok-make_room.ensures.ok (put c))
