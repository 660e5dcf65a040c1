-- The next one of the word is that of the next number.
use Rattle.std.proofs.Common.{◌≡◌, ◌+◌, ◌-◌, ◌*◌, ◌/◌, ◌<◌, length, get_or, [], ◌∷◌, refl, ap, sym, ◌∙◌, true, arith}
use Rattle.bit_lists.specs.Bits.{bits_of, item}
use Rattle.bit_lists.specs.Count.{IsFirstFrom}
use Rattle.bit_lists.proofs.BitLaws.{bits_are_counted}
use Rattle.postings.proofs.SpotLemmas.{first_picked, fragment_of, ones_after}
use Rattle.postings.proofs.WordLemmas.{one_word}
use Rattle.postings.proofs.stepping.next_in_word.Goals as goal

pub overflow_add-one : goal.overflow_add-one
overflow_add-one c =
    record { fits = omega (arith, c.in-Some.ensures.inside, bits_are_counted (get_or c.args.words.now (c.args.spot.one / 64) 0 ∷ []), c.well_formed) }

pub item_at_one-requires : goal.item_at_one-requires
item_at_one-requires c = fragment_of c.args.low.now c.args.n (c.args.spot.at + 1) c.requires.fragments c.if-at-n.false

pub returns-clause-next : goal.returns-clause-next
returns-clause-next c = λ xs parts here.
    let words = c.args.words.now in
    let b = bits_of words in
    let spot = c.args.spot in
    let e = c.in-Some.ensures in
    let digit = c.in-Some.digit in
    let k = spot.one / 64 in
    let word = get_or words k 0 in
    let inside : k < length words = omega arith in
    let small : digit < 64 = omega (arith, e.inside, bits_are_counted (word ∷ [])) in
    let first : IsFirstFrom b true (spot.one + 1) (64 * k + digit) = record {
      from = omega (arith, e.from);
      inside = omega (arith, inside, small, bits_are_counted words);
      is = sym (one_word words word k digit inside refl small) ∙ e.is;
      least = λ i from less.
          let there : 64 * k + (i - 64 * k) ≡ i = omega (arith, from) in
          ap (item b) (sym there)
          ∙ (sym (one_word words word k (i - 64 * k) inside refl (omega (arith, less, small))) ∙ e.least (i - 64 * k) (omega (arith, from)) (omega (arith, less, from)));
    } in
    let picked = first_picked b (spot.one + 1) (64 * k + digit) (spot.at + 1) first (ones_after b spot.at spot.one here.one) in
    record {
      inside = omega (arith, parts.count, c.if-at-n.false);
      one = picked;
      number = c.item_at_one.ensures.item xs c.args.n words (record { parts = parts; inside = c.if-at-n.false; one = picked });
    }
