-- What the lengths of parts claim, before anything is written to them.
use Rattle.std.proofs.Common.{◌≡◌, ℕ, ◌+◌, ◌*◌, ◌/◌, ◌^◌, ◌<◌, ◌≤◌, List, length, refl, sym, ap, ◌∙◌, ⊎_elim, arith}
use Rattle.std.proofs.Math.Nat.{div-le_self}
use Rattle.std.proofs.lemmas.Bool.{cases_eq}
use Rattle.std.specs.Int.{div_ceil}
use Rattle.bitm_tables.specs.Tables.{HasSizes}
use Rattle.tables_view.specs.Sizes.{lists_of}
use Rattle.elias_fano.proofs.lemmas.SizeLemmas.{few_of_some, upper_few_at}
use Rattle.elias_fano.specs.Parts.{width_at, width_of, upper_words_of, IsUpper}
use Rattle.elias_fano.specs.Sequence.{largest}
use Rattle.elias_fano_view.specs.Sizes.{HasPartRoom, upper_words_at}

-- a largest item without its low digits is less than twice the number of items, or there is none
pub few_above : (n u l : ℕ) → (n ≡ 0 → u ≡ 0) → l ≡ width_at n u → u / 2 ^ l ≤ 2 * n
few_above n u l none width =
    ⊎_elim
    (λ e. omega (arith, none e, div-le_self u (2 ^ l)))
    (λ some. omega (arith, ap (λ k. u / 2 ^ k) width, few_of_some u n (omega arith)))
    (cases_eq n 0)

-- so few words are enough for both vectors
pub vectors-few : (n u l : ℕ) → (n ≡ 0 → u ≡ 0) → l ≡ width_at n u
    → 64 * (div_ceil (n * l) 64 + upper_words_at n u l) ≤ n * (l + 3) + 126
vectors-few n u l none width =
    ⊎_elim
    (λ e. omega (arith, none e, div-le_self u (2 ^ l), ap (λ k. k * l) e, ap (λ k. k * (l + 3)) e))
    (λ some. small n l (u / 2 ^ l) (omega arith) (omega (arith, ap (λ k. u / 2 ^ k) width, few_of_some u n (omega arith))))
    (cases_eq n 0)
  where
    small : (n l h : ℕ) → 0 < n → h < 2 * n → 64 * (div_ceil (n * l) 64 + div_ceil (n + h + 1) 64) ≤ n * (l + 3) + 126
    small n l h some few = omega arith

module _ (xs low words upper lower : List ℕ) (l : ℕ) (h : HasPartRoom xs low words upper lower) (width : l ≡ width_of xs) where
  -- the upper words are few enough for an index
  pub upper-words-few : upper_words_of xs l < 2 ^ 58
  upper-words-few = omega (arith, h.short, upper_few_at xs l (largest xs) width refl)

  -- and the tables have room for theirs
  pub room-sizes : (made : List ℕ) → IsUpper xs l made → HasSizes (lists_of made upper lower)
  room-sizes made is =
      let same : length made ≡ upper_words_of xs (width_of xs) = is.words ∙ ap (upper_words_of xs) width in
      record {
        short = omega (arith, is.words, upper-words-few);
        upper_len = h.upper_len ∙ ap (λ n. div_ceil n (2 ^ 26)) (sym same);
        lower_len = h.lower_len ∙ ap (λ n. div_ceil n 32) (sym same);
      }
