-- The lowest 1 bit of what is left is that of the next number.
use Rattle.std.proofs.Common.{◌≡◌, ◌≢◌, ℕ, ◌+◌, ◌*◌, ◌^◌, ◌<◌, true, w64, List, get_or, sym, subst, ◌∙◌, arith}
use Rattle.std.proofs.lemmas.List.{get_or-set_other}
use Rattle.std.proofs.lemmas.Nat.{ones_le_self}
use Rattle.std.specs.Int.{trailing_zeros}
use Rattle.bit_lists.specs.Bits.{bits_of}
use Rattle.bit_lists.specs.Count.{ones_before}
use Rattle.bit_words.proofs.lemmas.PositionLemmas.{first_picked, next_counts, placed_more}
use Rattle.elias_fano.specs.Parts.{HasOneAt}
use Rattle.elias_fano_view.proofs.RestLemmas.{first-left, ones-cleared, rest-next}
use Rattle.elias_fano_view.proofs.sequence.items.write_ones_of.Goals as goal

pub loop-k-preserved : goal.loop-k-preserved
loop-k-preserved c =
    let i = c.loop-k.invariant in
    let k = c.loop-k.k in
    let left = c.loop-k.left in
    let fits : left < 2 ^ 64 = omega (arith, c.loop-k.auto.left-fits) in
    let some : 0 < left = omega (arith, i.ones, c.loop-k-test.true, c.loop-k.auto.k-end, ones_le_self left) in
    let p = 64 * c.args.at + trailing_zeros w64 left in
    let read = c.item_at_one.ensures.fragments in
    record {
      ones = omega (arith, i.ones, ones-cleared left some fits);
      rests = λ upper index rest.
          let now = i.rests upper index rest in
          let more = next_counts (bits_of upper) true now.0 p (first-left upper now.0 c.args.at left now.1 some fits) in
          (p + 1, rest-next upper now.0 c.args.at left now.1 some fits, omega (arith, more, now.2, c.loop-k.auto.k));
      items = λ xs n upper index parts room rest begin before.
          let b = bits_of upper in
          let now = i.rests upper index rest in
          let rank : ones_before b now.0 ≡ c.args.from + k = omega (arith, now.2, begin, c.loop-k.auto.k) in
          let first = first-left upper now.0 c.args.at left now.1 some fits in
          let picked = first_picked b true now.0 p (c.args.from + k) first rank in
          let here : HasOneAt xs n c.args.low.now.width c.args.low.now.words upper (c.args.from + k) p =
          record { parts = parts; inside = omega (arith, room, c.loop-k-test.true, c.loop-k.auto.k-end); one = picked } in
          let W : ℕ → Type 0 = λ w. HasOneAt xs n w c.args.low.now.words upper (c.args.from + k) p in
          let L : List ℕ → Type 0 = λ ws. HasOneAt xs n c.loop-k.low.width ws upper (c.args.from + k) p in
          let number = c.item_at_one.ensures.item xs n upper (subst L (sym i.fragments.words) (subst W (sym i.fragments.width) here)) in
          placed_more (λ j x. x ≡ get_or xs (c.args.from + j) 0) c.loop-k.out k c.item_at_one.result
          (i.items xs n upper index parts room rest begin before)
          (omega (arith, c.requires.room, c.loop-k-test.true, c.loop-k.auto.k-end, c.loop-k.auto.out)) number;
      kept = λ j past.
          let other : j ≢ k = λ e. omega (arith, e, past) in
          get_or-set_other c.loop-k.out k j c.item_at_one.result 0 other ∙ i.kept j (omega (arith, past));
      fragments = record {
        at_most = omega (arith, read.at_most, i.fragments.at_most, c.loop-k.auto.k);
        words = read.words ∙ i.fragments.words;
        width = read.width ∙ i.fragments.width;
      };
    }

pub returns-clause-items : goal.returns-clause-items
returns-clause-items c = λ xs n upper index parts room rest begin before j less.
    c.loop-k.invariant.items xs n upper index parts room rest begin before j (omega (arith, less, c.loop-k-test.false))
