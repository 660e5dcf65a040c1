-- A word that has another bit is in the range; the rest is after the last word.
use Rattle.std.proofs.Common.{◌≡◌, ℕ, ◌+◌, ◌-◌, ◌*◌, ◌/◌, ◌%◌, ◌^◌, ◌<◌, ◌↔◌, true, get_or, ap, sym, ◌∙◌, arith}
use Rattle.bit_lists.proofs.lemmas.BitsLemmas.{item-bits_of_at}
use Rattle.bit_lists.specs.Bits.{bits_of, digit}
use Rattle.bit_lists.specs.Count.{as_bit}
use Rattle.bit_words.specs.Where.{HasWhere}
use Rattle.bit_words.proofs.lemmas.WhereLemmas.{number_digit, where_digits, where_more}
use Rattle.bit_words.proofs.slices.comparing.has_where.Goals as goal
use Rattle.bit_words.proofs.slices.comparing.has_where.Goals.{After-has_in_word}

-- of one word
word : (g : _) (c : After-has_in_word g)
    → ((j : ℕ) → j < 64 → digit (get_or c.args.a.now c.loop-k.k 0) j ≡ true → digit (get_or c.args.b.now c.loop-k.k 0) j ≡ as_bit g.row.BIT)
    ↔ HasWhere (bits_of c.args.a.now) (bits_of c.args.b.now) (as_bit g.row.BIT) (64 * c.loop-k.k) (64 * (c.loop-k.k + 1))
word g c =
    let k = c.loop-k.k in
    where_digits (bits_of c.args.a.now) (bits_of c.args.b.now) (as_bit g.row.BIT) (64 * k) (64 * (k + 1)) 64 (get_or c.args.a.now k 0) (get_or c.args.b.now k 0)
    (omega arith) (omega arith) (c.type_inv.a k).fits
    (λ j l. sym (item-bits_of_at c.args.a.now (64 * k + j) k j (λ i. 64 * k + j) l (omega (arith, c.requires.a_len, c.loop-k-test.true))))
    (λ j l. sym (item-bits_of_at c.args.b.now (64 * k + j) k j (λ i. 64 * k + j) l (omega (arith, c.requires.b_len, c.loop-k-test.true))))

pub returns-then-not-has_in_word : goal.returns-then-not-has_in_word
returns-then-not-has_in_word g c = (
  λ no. cc,
  λ all. sym c.if-not-has_in_word.true
      ∙ c.has_in_word.ensures.1
      ((word g (goal.at.returns-then-not-has_in_word g c).After-has_in_word).1 (λ i from l. all i (omega arith) (omega (arith, c.loop-k-test.true)))),
)

pub loop-k-preserved : goal.loop-k-preserved
loop-k-preserved g c =
    where_more (bits_of c.args.a.now) (bits_of c.args.b.now) (as_bit g.row.BIT) 0 (64 * c.loop-k.k) (64 * (c.loop-k.k + 1)) c.loop-k.invariant
    ((word g (goal.at.loop-k-preserved g c).After-has_in_word).0 (c.has_in_word.ensures.0 c.if-not-has_in_word.false))

pub returns-else-rest-eq0 : goal.returns-else-rest-eq0
returns-else-rest-eq0 g c =
    let a = bits_of c.args.a.now in
    let b = bits_of c.args.b.now in
    let n = c.args.len in
    let s = 64 * (n / 64) in
    let last = where_digits a b (as_bit g.row.BIT) s n (n % 64) c.get_bits.result c.get_bits-else-rest-eq0.result
    (omega arith) (omega arith) c.get_bits.ensures.bound
    (λ j l. ap (λ x. digit x j) c.get_bits.ensures.value ∙ number_digit a s (n % 64) j l)
    (λ j l. ap (λ x. digit x j) c.get_bits-else-rest-eq0.ensures.value ∙ number_digit b s (n % 64) j l) in (
      λ is. where_more a b (as_bit g.row.BIT) 0 s n (λ i from l. c.loop-k.invariant i from (omega (arith, c.loop-k-test.false)))
          (last.0 (c.has_in_word-else-rest-eq0.ensures.0 is)),
      λ all. c.has_in_word-else-rest-eq0.ensures.1 (last.1 (λ i from l. all i (omega arith) l)),
    )
