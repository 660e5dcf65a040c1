-- Each word before the current one is 0, and the first that is not has the first one.
use Rattle.std.proofs.Common.{rules, ◌≡◌, ℕ, ◌+◌, ◌*◌, ◌^◌, ◌<◌, List, length, get_or, w64, arith, false}
use Rattle.std.specs.Int.{trailing_zeros}
use Rattle.bit_lists.specs.Bits.{bits_of, item}
use Rattle.bit_lists.specs.Count.{IsFirstOneFrom}
use Rattle.bit_lists.proofs.lemmas.BitsLemmas.{length-bits_of}
use Rattle.bit_words.proofs.lemmas.FindLemmas.{IsRestFrom-word, passed_word, first_left}
use Rattle.bit_words.proofs.finding.trailing_zero_bits.Goals as goal

first_of_word : (words : List ℕ) (q : ℕ) → q < length words → get_or words q 0 < 2 ^ 64 → 0 < get_or words q 0
    → ((i : ℕ) → i < 64 * q → item (bits_of words) i ≡ false)
    → IsFirstOneFrom (bits_of words) 0 (q * 64 + trailing_zeros w64 (get_or words q 0))
first_of_word words q within fits some before =
    first_left words 0 q (get_or words q 0) (IsRestFrom-word words q within fits before) some

pub returns-then-word-ne0 : goal.returns-then-word-ne0
returns-then-word-ne0 c =
    let words = c.args.words.now in
    let q = c.loop-word_index.word_index in
    let fits : get_or words q 0 < 2 ^ 64 = search rules in
    let first = first_of_word words q (omega arith) fits (omega arith) c.loop-word_index.invariant in
    record { within = omega (arith, first.inside); zeros = λ i l. first.least i (omega arith) l; one = λ _. first.is }

pub returns : goal.returns
returns c =
    let size = length-bits_of c.args.words.now in
    record {
      within = omega (arith, size);
      zeros = λ i l. c.loop-word_index.invariant i (omega arith);
      one = λ l. absurd (omega (arith, l, size));
    }

pub loop-word_index-preserved : goal.loop-word_index-preserved
loop-word_index-preserved c =
    let words = c.args.words.now in
    let q = c.loop-word_index.word_index in
    let fits : get_or words q 0 < 2 ^ 64 = search rules in
    let rest = IsRestFrom-word words q (omega arith) fits c.loop-word_index.invariant in
    λ i l. passed_word words 0 q _ rest c.if-word-ne0.false i (omega arith) l
