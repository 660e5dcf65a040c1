-- What is said of levels, said of the parts that have them.
use Rattle.std.proofs.Common.{◌≡◌, ℕ, Bool, List, sym, subst}
use Rattle.bit_lists.specs.Bits.{bits_of}
use Rattle.perfect_hash.specs.Levels.{fall_in}
use Rattle.perfect_hash.specs.Numbers.{AreLevels, number_in}
use Rattle.perfect_hash.specs.Perfect.{IsMinimalPerfect}
use Rattle.perfect_hash.specs.Parts.{Parts, number_at}

-- where levels number the keys, so do the parts that have them
pub perfect_parts : {H I P K : Type 0} (by : P → ℕ → ℕ → ℕ → ℕ → ℕ) (hash : H → K → ℕ) (keys : List K) (parts : Parts H I P) (hasher : H) (placing : P)
    (sizes words : List ℕ) (bits : List Bool) (index : I)
    → parts ≡ record { hasher = hasher; placing = placing; sizes = sizes; bits = bits; index = index }
    → bits ≡ bits_of words → AreLevels (fall_in (by placing) sizes) (hash hasher) keys sizes words → IsMinimalPerfect (number_at by hash parts) keys
perfect_parts {H} {I} {P} {K} by hash keys parts hasher placing sizes words bits index is bits_are levels =
    subst (λ (p : Parts H I P). IsMinimalPerfect (number_at by hash p) keys) (sym is)
    (subst (λ (b : List Bool). IsMinimalPerfect (λ k. number_in (fall_in (by placing) sizes) sizes b (hash hasher k)) keys) (sym bits_are) levels.perfect)

-- what holds of levels holds of the parts that have them
pub of_parts : {H I P : Type 0} (Q : P → List ℕ → List Bool → Type 0) (parts : Parts H I P) (hasher : H) (placing : P)
    (sizes words : List ℕ) (bits : List Bool) (index : I)
    → parts ≡ record { hasher = hasher; placing = placing; sizes = sizes; bits = bits; index = index }
    → bits ≡ bits_of words → Q placing sizes (bits_of words) → Q parts.placing parts.sizes parts.bits
of_parts {H} {I} {P} Q parts hasher placing sizes words bits index is bits_are h =
    subst (λ (p : Parts H I P). Q p.placing p.sizes p.bits) (sym is)
    (subst (λ (b : List Bool). Q placing sizes b) (sym bits_are) h)
