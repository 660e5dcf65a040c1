-- The lengths of the parts of a sequence.
use Rattle.std.specs.Prelude.{◌≡◌, ℕ, ◌+◌, ◌*◌, ◌/◌, ◌^◌, ◌<◌, List, length}
use Rattle.std.specs.Int.{div_ceil}
use Rattle.elias_fano.specs.Parts.{width_at}
use Rattle.elias_fano.specs.Sequence.{largest}
use Rattle.elias_fano_view.specs.declared.sizes.Sizes.{Sizes}

-- few enough items for a sequence, of which u may be the largest: 0 where there are none
pub record IsLargest (n u : ℕ) : Type 0 where
  pub short : n < 2 ^ 56
  pub none : n ≡ 0 → u ≡ 0

-- the number of words of the high bits of n items with l low bits, the largest of them u
abbrev pub upper_words_at : ℕ → ℕ → ℕ → ℕ
upper_words_at n u l = div_ceil (n + u / 2 ^ l + 1) 64

-- the lengths of the parts of n items, the largest of them u
abbrev pub sizes_of : ℕ → ℕ → Sizes
sizes_of n u = record {
  width = width_at n u;
  low = div_ceil (n * width_at n u) 64;
  words = upper_words_at n u (width_at n u);
  upper = div_ceil (upper_words_at n u (width_at n u)) (2 ^ 26);
  lower = div_ceil (upper_words_at n u (width_at n u)) 32;
}

-- few enough items, and lists with the lengths of their parts and tables
pub record HasPartRoom (xs low words upper lower : List ℕ) : Type 0 where
  pub short : length xs < 2 ^ 56
  pub low_len : length low ≡ (sizes_of (length xs) (largest xs)).low
  pub words_len : length words ≡ (sizes_of (length xs) (largest xs)).words
  pub upper_len : length upper ≡ (sizes_of (length xs) (largest xs)).upper
  pub lower_len : length lower ≡ (sizes_of (length xs) (largest xs)).lower
