use Rattle.std.proofs.Common.{◌≡◌, ℕ, ◌<◌, ◌*◌, ◌/◌, ◌%◌, ◌^◌, Bool, true, false, cond, List, length, get_or, set, bit_and, bit_or, w64, refl, arith}
use Rattle.std.specs.Int.{bit_not}
use Rattle.bit_lists.specs.Bits.{bits_of}
use Rattle.bit_lists.specs.Number.{with_number}
use Rattle.bit_words.proofs.lemmas.WriteLemmas.{set_bits_within}
use Rattle.bit_words.proofs.writing.set_bit_to.Goals as goal
use mir.Val.{bool_byte}

written : (words : List ℕ) (i : ℕ) (b : Bool) (y : ℕ) → i < 64 * length words
    → y ≡ bit_or (bit_and (get_or words (i / 64) 0) (bit_not w64 (1 * 2 ^ (i % 64) % 2 ^ 64))) (bool_byte b * 2 ^ (i % 64) % 2 ^ 64)
    → bits_of (set words (i / 64) y) ≡ with_number (bits_of words) i 1 (cond b 1 0)
written words i true y l is = set_bits_within words i 1 1 1 y (l, omega arith) (omega arith) (omega arith) refl is
written words i false y l is = set_bits_within words i 1 0 1 y (l, omega arith) (omega arith) (omega arith) refl is

pub returns : goal.returns
returns c = written c.args.words.now c.args.position c.args.value _ c.requires c.set_bits_to.ensures
