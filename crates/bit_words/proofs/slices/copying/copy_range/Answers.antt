-- The bits up to a whole word, the whole words, and the rest.
use Rattle.std.proofs.Common.{◌≡◌, ℕ, ◌+◌, ◌-◌, ◌*◌, ◌/◌, ◌%◌, ◌<◌, ◌≤◌, ◌⊎◌, ⊎_elim, inl, inr, subst, arith}
use Rattle.std.proofs.lemmas.Bool.{cases_lt}
use Rattle.bit_lists.proofs.lemmas.BitsLemmas.{length-bits_of}
use Rattle.bit_lists.specs.Bits.{bits_of}
use Rattle.bit_words.specs.Copied.{IsCopied}
use Rattle.bit_words.proofs.lemmas.CopyLemmas.{copied_more, copied_none, copied_words}
use Rattle.bit_words.proofs.slices.copying.copy_range.Goals as goal

pub returns : goal.returns
returns c =
    let source = bits_of c.args.from.now in
    let old = bits_of c.args.to.now in
    let s = c.args.to_begin in
    let t = c.args.from_begin in
    let head = c.min-head.result in
    let skip = (64 - s % 64) % 64 in
    let whole = (c.args.count - head) / 64 in
    let rest = c.args.count - (head + 64 * whole) in
    let len = length-bits_of c.args.to.now in
    let few : head ≤ c.args.count = omega (arith, c.min-head.ensures) in
    let none = copied_none source t old s 0 (let zero : 0 ≡ 0 = omega arith in zero) in
    let first = copied_more source t old s 0 old s t head (bits_of c.copy_bits.new.to) none (omega arith) (omega arith)
    (omega (arith, few, len, c.requires.to_inside)) c.copy_bits.ensures in
    let aligned : (64 * ((s + head) / 64) ≡ s + (0 + head)) ⊎ (64 * whole ≡ 0) =
    ⊎_elim (λ (some : skip < c.args.count). inl (omega (arith, some, c.min-head.ensures))) (λ (all : c.args.count ≤ skip). inr (omega (arith, all, c.min-head.ensures)))
    (cases_lt skip c.args.count) in
    let second = copied_words source t old s (0 + head) (bits_of c.copy_bits.new.to) (64 * ((s + head) / 64)) (t + head) (64 * whole) (bits_of c.copy_words.new.to)
    first aligned (omega arith) c.copy_words.ensures in
    let third = copied_more source t old s (0 + head + 64 * whole) (bits_of c.copy_words.new.to) (s + (head + 64 * whole)) (t + (head + 64 * whole)) rest (bits_of c.copy_bits-2.new.to)
    second (omega arith) (omega arith) (omega (arith, few, len, c.requires.to_inside)) c.copy_bits-2.ensures in
    let count : 0 + head + 64 * whole + rest ≡ c.args.count = omega (arith, few) in
    subst (λ (k : ℕ). IsCopied source t old s k (bits_of c.copy_bits-2.new.to)) count third
