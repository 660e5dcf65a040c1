-- Levels that are made one after another in the first words of a slice.
use Rattle.std.proofs.Common.{◌≡◌, ℕ, ◌+◌, ◌*◌, ◌/◌, ◌%◌, ◌<◌, ◌≤◌, true, List, [], ◌++◌, length, length-drop, max, min, take, drop, set, refl, sym, ap, subst, ◌∙◌, arith}
use Rattle.std.proofs.Math.Seq.{take-add}
use Rattle.std.proofs.lemmas.List.{length-take-le, take_more_set}
use Rattle.std.specs.List.{sum}
use Rattle.bit_lists.specs.Bits.{bits_of, IsShort}
use Rattle.bit_lists.specs.Count.{ones_before, ones_of}
use Rattle.bit_lists.proofs.BitLaws.{bits_are_counted, none_before_the_first}
use Rattle.perfect_hash.specs.Inside.{falls_inside}
use Rattle.perfect_hash.specs.Levels.{left_of, AddsLevel, AreSized, IsLevel, Leave}
use Rattle.perfect_hash.specs.Numbers.{AreLevels}
use Rattle.perfect_hash.specs.Positions.{position_in, words_for}
use Rattle.perfect_hash.proofs.lemmas.BuildLemmas.{adds_level, are_sizes, perfect, Leave-more}
use Rattle.perfect_hash.proofs.lemmas.NumberLemmas.{numbered}
use Rattle.perfect_hash.proofs.lemmas.PlacingLemmas.{AreSized-next}

-- the first levels and words of slices, and the hashes that they leave in front
pub record IsBuilt (percent : ℕ) (keys sizes words hashes : List ℕ) (levels used left : ℕ) : Type 0 where
  pub leave : Leave position_in keys (take levels sizes) (take used words) (take left hashes)
  pub sized : AreSized (words_for percent) position_in keys (bits_of (take used words)) 0 0 (take levels sizes)

module _ (percent : ℕ) (keys hashes hashes' words words' sizes : List ℕ) (level used size left left' : ℕ)
    (before : IsBuilt percent keys sizes words hashes level used left)
    (room : level < length sizes) (inside : used + size ≤ length words') (same : take used words' ≡ take used words)
    (some : 0 < size) (is : size ≡ words_for percent left) (few : left ≤ length hashes)
    (made : IsLevel position_in (take left hashes) (bits_of (take size (drop used words'))) level 0 size)
    (after : take left' hashes' ≡ left_of position_in (take left hashes) (bits_of (take size (drop used words'))) level 0 size) where
  ones : List ℕ
  ones = take size (drop used words')

  ones_len : length ones ≡ size
  unfolding ones
  ones_len = length-take-le size (drop used words') (omega (arith, length-drop used words'))

  adds : AddsLevel position_in (take left hashes) (take level sizes) (take used words) (take (level + 1) (set sizes level size))
      (take (used + size) words') (take left' hashes')
  unfolding ones
  adds = adds_level position_in falls_inside (take left hashes) (take left' hashes') (take level sizes) (take used words)
      (take (level + 1) (set sizes level size)) (take (used + size) words') ones size level some
      (length-take-le level sizes (omega arith)) ones_len (take_more_set sizes level size room)
      (take-add used size words' ∙ ap (λ (ws : List ℕ). ws ++ ones) same) made
      (after ∙ ap (λ (n : ℕ). left_of position_in (take left hashes) (bits_of ones) level 0 n) (sym ones_len))

  size_is : adds.size ≡ words_for percent (length (take left hashes))
  size_is =
      let first : length (take used words) ≡ used = ap length (sym same) ∙ length-take-le used words' (omega arith) in
      let all : length (take (used + size) words') ≡ used + size = length-take-le (used + size) words' inside in
      let e : adds.size ≡ size = omega (arith, adds.len, first, all) in
      e ∙ is ∙ ap (words_for percent) (sym (length-take-le left hashes few))

  pub built_more : IsBuilt percent keys (set sizes level size) words' hashes' (level + 1) (used + size) left'
  built_more = record {
    leave = Leave-more position_in falls_inside keys (take left hashes) (take left' hashes') (take level sizes) (take used words)
        (take (level + 1) (set sizes level size)) (take (used + size) words') before.leave adds;
    sized = AreSized-next (λ _. position_in) (λ _. position_in) (λ _. falls_inside) keys (take left hashes) (take left' hashes') (take level sizes)
        (take used words) (take (level + 1) (set sizes level size)) (take (used + size) words') (λ begin hash l w more within. refl)
        before.leave adds (words_for percent) before.sized size_is;
  }

-- where no hash is left, they are numbered
module _ (percent : ℕ) (keys sizes words hashes : List ℕ) (levels used left : ℕ) (built : IsBuilt percent keys sizes words hashes levels used left)
    (none : left ≡ 0) where
  all : Leave position_in keys (take levels sizes) (take used words) []
  all = subst (λ (n : ℕ). Leave position_in keys (take levels sizes) (take used words) (take n hashes)) none built.leave

  pub built_levels : length (take levels sizes) ≤ 256 → IsShort (take used words)
      → AreLevels position_in (λ (hash : ℕ). hash) keys (take levels sizes) (take used words)
  built_levels few short = record {
    perfect = perfect position_in falls_inside keys (take levels sizes) (take used words) all;
    sizes_are = are_sizes position_in keys (take levels sizes) (take used words) all few short;
    short = short;
  }

  pub built_ones : ones_of (bits_of (take used words)) ≡ length keys
  built_ones =
      let b = bits_of (take used words) in
      let end : 0 + 64 * sum (take levels sizes) ≡ length b = omega (arith, all.all, bits_are_counted (take used words)) in
      let total = (numbered position_in falls_inside keys b 0 0 (take levels sizes) (omega (arith, end)) all.lead).total in
      omega (arith, total, ap (ones_before b) end, none_before_the_first b true)

-- a product divided by parts
pub by_parts : (n p : ℕ) → n * p / 6400 ≡ n / 6400 * p + n % 6400 * p / 6400
by_parts n p =
    let split : 6400 * (n / 6400) + n % 6400 ≡ n = omega arith in
    let product : n * p ≡ 6400 * (n / 6400 * p) + n % 6400 * p = ap (λ (m : ℕ). m * p) (sym split) ∙ grind arith in
    omega (arith, product)

-- and so is the size of a level, where each step is cut off at the greatest number
pub level_by_parts : (percent keys p whole most n : ℕ) → p ≡ max percent 50 → whole ≡ min (keys / 6400 * p) most
    → n ≡ min (whole + (keys % 6400 * p / 6400 + 1)) most → n ≡ min (words_for percent keys) most
level_by_parts percent keys p whole most n is first all =
    let parts : keys * p / 6400 ≡ keys / 6400 * p + keys % 6400 * p / 6400 = by_parts keys p in
    let size : words_for percent keys ≡ keys * p / 6400 + 1 = ap (λ (m : ℕ). keys * m / 6400 + 1) (sym is) in
    omega (arith, parts, size, first, all)
