-- Words that differ are in the range; the rest is after the last word.
use Rattle.std.proofs.Common.{◌≡◌, ℕ, ◌+◌, ◌-◌, ◌*◌, ◌/◌, subst, sym, ◌∙◌, arith}
use Rattle.bit_lists.specs.Bits.{bits_of}
use Rattle.bit_words.specs.Copied.{AreSame}
use Rattle.bit_words.proofs.lemmas.SameLemmas.{same_fewer, same_more}
use Rattle.bit_words.proofs.slices.equality.is_equal_range.Goals as goal

pub returns-then-not-are_equal_words : goal.returns-then-not-are_equal_words
returns-then-not-are_equal_words c =
    let a = bits_of c.args.a.now in
    let b = bits_of c.args.b.now in
    let k = 64 * c.loop-k.k in (
      λ no. cc,
      λ all. sym c.if-not-are_equal_words.true
          ∙ c.are_equal_words.ensures.1
          (same_fewer a b c.args.a_begin c.args.b_begin c.args.count (c.args.a_begin + k) (c.args.b_begin + k) k 64
          (omega arith) (omega arith) (omega (arith, c.loop-k-test.true)) all),
    )

pub loop-k-preserved : goal.loop-k-preserved
loop-k-preserved c =
    let a = bits_of c.args.a.now in
    let b = bits_of c.args.b.now in
    let k = 64 * c.loop-k.k in
    let count : k + 64 ≡ 64 * (c.loop-k.k + 1) = omega arith in
    subst (λ (n : ℕ). AreSame a c.args.a_begin b c.args.b_begin n) count
    (same_more a b c.args.a_begin c.args.b_begin k (c.args.a_begin + k) (c.args.b_begin + k) 64 (omega arith) (omega arith)
    c.loop-k.invariant (c.are_equal_words.ensures.0 c.if-not-are_equal_words.false))

pub returns : goal.returns
returns c =
    let a = bits_of c.args.a.now in
    let b = bits_of c.args.b.now in
    let k = 64 * (c.args.count / 64) in
    let at : 64 * c.loop-k.k ≡ k = omega (arith, c.loop-k-test.false, c.loop-k.auto.k-end) in
    let rest = c.args.count - k in
    let count : k + rest ≡ c.args.count = omega arith in
    let before = subst (λ (n : ℕ). AreSame a c.args.a_begin b c.args.b_begin n) at c.loop-k.invariant in (
      λ same. subst (λ (n : ℕ). AreSame a c.args.a_begin b c.args.b_begin n) count
          (same_more a b c.args.a_begin c.args.b_begin k (c.args.a_begin + k) (c.args.b_begin + k) rest (omega arith) (omega arith)
          before (c.are_equal_bits.ensures.0 same)),
      λ all. c.are_equal_bits.ensures.1
          (same_fewer a b c.args.a_begin c.args.b_begin c.args.count (c.args.a_begin + k) (c.args.b_begin + k) k rest
          (omega arith) (omega arith) (omega arith) all),
    )
