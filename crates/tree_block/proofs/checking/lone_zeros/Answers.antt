-- A digit that is counted is a zero, and the one before it is none.
use Rattle.std.proofs.Common.{◌≡◌, ◌+◌, ◌*◌, ◌-◌, ◌%◌, ◌^◌, ◌<◌, ℕ, max, ap, ◌∙◌, w64, arith}
use Rattle.std.proofs.lemmas.Nat.{or_lt}
use Rattle.std.proofs.lemmas.Nat.Bits.{bit_at_not, bit_at_or}
use Rattle.std.specs.Int.{bit_at, bit_not}
use Rattle.std.specs.Int.RustNames.{bit_or}
use Rattle.bit_lists.proofs.lemmas.WordLemmas.{bit_at-shl, bit_at-shl_below}
use Rattle.tree_block.proofs.LeadLemmas.{keeps_where_paired}
use Rattle.tree_block.proofs.checking.lone_zeros.Goals as goal

module _ (v : ℕ) (fits : v < 2 ^ 64) where
  abbrev after : ℕ
  after = v * 2 ^ 1 % 2 ^ 64

  either : bit_or v after < 2 ^ 64
  either = or_lt 64 v after fits (omega arith)

  digit : (j : ℕ) → j < 64 → bit_at (bit_not w64 (bit_or v after)) j ≡ 1 - max (bit_at v j) (bit_at after j)
  digit j inside = bit_at_not w64 (bit_or v after) j either inside ∙ ap (λ d. 1 - d) (bit_at_or v after j)

pub returns : goal.returns
returns c =
    let v = c.args.word in
    let fits = c.ranges.word.fits in
    λ lead enough.
    keeps_where_paired v (bit_not w64 (bit_or v (after v fits)))
    (λ none. omega (arith, digit v fits 0 (omega arith), none, bit_at-shl_below v 1 64 0 (omega arith) (omega arith)))
    (λ k inside none before. omega (arith, digit v fits (k + 1) inside, none, before, bit_at-shl v 1 64 (k + 1) k inside (omega arith)))
    lead (omega arith) enough
