-- Levels with seeds, which are made one after another in the first words of a slice.
use Rattle.std.proofs.Common.{◌≡◌, ℕ, ◌+◌, ◌*◌, ◌/◌, ◌%◌, ◌^◌, ◌<◌, ◌≤◌, List, [], ◌++◌, length, length-drop, min, slice_index, take, drop, set, refl, sym, ap, subst, ◌∙◌, Bool, true, arith}
use Rattle.std.proofs.Math.Seq.{take-add, take-length}
use Rattle.std.proofs.lemmas.List.{drop-take, get_or-drop, get_or-take, length-take-le, take-append-le, take-take, take_more_set}
use Rattle.std.proofs.lemmas.Slice.{between_is, between-put_mid}
use Rattle.std.specs.List.{sum}
use Rattle.bit_lists.specs.Bits.{bits_of, IsShort}
use Rattle.bit_lists.specs.Count.{ones_before, ones_of}
use Rattle.bit_lists.proofs.BitLaws.{bits_are_counted, none_before_the_first}
use Rattle.perfect_hash.specs.Inside.{fraction_below, positions_inside}
use Rattle.perfect_hash.specs.Levels.{fall_in, left_of, AddsLevel, AreChosen, AreSized, IsLevel, Leave}
use Rattle.perfect_hash.specs.Numbers.{AreLevels}
use Rattle.perfect_hash.specs.Positions.{bit_by, position_by, spread, words_for}
use Rattle.perfect_hash.specs.Seeds.{AreBestSeeds, HasBest}
use Rattle.perfect_hash.proofs.lemmas.BuildLemmas.{adds_level, are_sizes, perfect}
use Rattle.perfect_hash.proofs.lemmas.LevelLemmas.{FallsInside}
use Rattle.perfect_hash.proofs.lemmas.NumberLemmas.{numbered}
use Rattle.perfect_hash.proofs.lemmas.PlacingLemmas.{left_of-alike, AreChosen-next, AreSized-next, IsLevel-alike, Leave-next}
use Rattle.perfect_hash.specs.Seeded.{seeds_with, StandFrom}
use borrow.Rule.Slice.PartMut.{put_mid}

-- hashes fall alike in levels whose seeds are the same
pub position_by-alike : (old new : List ℕ) (n first hash level words : ℕ) → take n new ≡ take n old → 0 < words → first + words ≤ n
    → position_by new first hash level words ≡ position_by old first hash level words
unfolding position_by
position_by-alike old new n first hash level words same some before =
    let x = spread hash level in
    let word = x % 2 ^ 64 * words / 2 ^ 64 in
    let inside : first + word < n = omega (arith, fraction_below (x % 2 ^ 64) words (omega arith) some) in
    ap (λ (seed : ℕ). 64 * word + bit_by seed x)
    (sym (get_or-take n new (first + word) 0 inside) ∙ ap (λ (s : List ℕ). slice_index s (first + word)) same
    ∙ get_or-take n old (first + word) 0 inside)

-- hashes fall in a level by its seeds alone as by those of all words, wherever its seeds stand among them
pub position_by-alone : (all : List ℕ) (first : ℕ) (seeds : List ℕ) (hash level words : ℕ) → StandFrom all first seeds → 0 < words → words ≤ length seeds
    → position_by seeds 0 hash level words ≡ position_by all first hash level words
unfolding position_by
position_by-alone all first seeds hash level words stand some enough =
    let x = spread hash level in
    let word = x % 2 ^ 64 * words / 2 ^ 64 in
    let inside : word < length seeds = omega (arith, fraction_below (x % 2 ^ 64) words (omega arith) some) in
    ap (λ (seed : ℕ). 64 * word + bit_by seed x)
    (ap (slice_index seeds) (omega arith) ∙ ap (λ (s : List ℕ). slice_index s word) (sym stand)
    ∙ get_or-take (length seeds) (drop first all) word 0 inside ∙ get_or-drop first all word 0)

pub IsLevel-alone : (all : List ℕ) (first : ℕ) (seeds hashes : List ℕ) (b : List Bool) (level words size : ℕ) → StandFrom all first seeds
    → words ≡ size → 0 < size → size ≤ length seeds → IsLevel (position_by seeds 0) hashes b level 0 words
    → IsLevel (position_by all first) hashes b level 0 size
IsLevel-alone all first seeds hashes b level words size stand same some enough is =
    IsLevel-alike (position_by seeds 0) (position_by all first) hashes b level 0 size
    (λ hash. position_by-alone all first seeds hash level size stand some enough)
    (subst (λ (n : ℕ). IsLevel (position_by seeds 0) hashes b level 0 n) same is)

pub left_of-alone : (all : List ℕ) (first : ℕ) (seeds hashes : List ℕ) (b : List Bool) (level words size : ℕ) → StandFrom all first seeds
    → words ≡ size → 0 < size → size ≤ length seeds
    → left_of (position_by seeds 0) hashes b level 0 words ≡ left_of (position_by all first) hashes b level 0 size
left_of-alone all first seeds hashes b level words size stand same some enough =
    ap (λ (n : ℕ). left_of (position_by seeds 0) hashes b level 0 n) same
    ∙ left_of-alike (position_by seeds 0) (position_by all first) hashes b level 0 size
    (λ hash. position_by-alone all first seeds hash level size stand some enough)

-- what is written into a stretch of a list stands there
pub written_is : (old new : List ℕ) (used size k : ℕ) → used ≤ length old → length new ≡ size
    → drop used (take (used + size) (put_mid used k old new)) ≡ new
written_is old new used size k inside long =
    sym (between_is (put_mid used k old new) used (used + size)) ∙ between-put_mid used k old new (used + size) inside (omega (arith, long))

-- the seeds of a level that are written where its words are
pub stand_written : (old new : List ℕ) (used size k : ℕ) → used ≤ length old → length new ≡ size
    → StandFrom (take (used + size) (put_mid used k old new)) used new
stand_written old new used size k inside long = ap (take (length new)) (written_is old new used size k inside long) ∙ take-length new

-- a level whose words and seeds are written into stretches of those of all levels
module _ (words ones seeds own hashes : List ℕ) (level used size k n : ℕ)
    (inside : used ≤ length words) (seeds_inside : used ≤ length seeds) (long : length ones ≡ size) (own_long : length own ≡ size) (is : n ≡ size) where
  all_seeds : List ℕ
  all_seeds = take (used + size) (put_mid used k seeds own)

  ones_are : take size (drop used (put_mid used k words ones)) ≡ ones
  ones_are = sym (drop-take used size (put_mid used k words ones)) ∙ written_is words ones used size k inside long

  pub IsLevel-written : ((all : List ℕ) (first : ℕ) → StandFrom all first own → IsLevel (position_by all first) hashes (bits_of ones) level 0 n)
      → IsLevel (position_by (take (used + size) (put_mid used k seeds own)) used) hashes
      (bits_of (take size (drop used (put_mid used k words ones)))) level 0 size
  unfolding all_seeds
  IsLevel-written made =
      let P : ℕ → Type 0 = λ m. IsLevel (position_by all_seeds used) hashes (bits_of ones) level 0 m in
      let Q : List ℕ → Type 0 = λ ws. IsLevel (position_by all_seeds used) hashes (bits_of ws) level 0 size in
      subst Q (sym ones_are) (subst P is (made all_seeds used (stand_written seeds own used size k seeds_inside own_long)))

  pub left_of-written : (after rest : List ℕ) (left : ℕ) → left ≤ length after
      → ((all : List ℕ) (first : ℕ) → StandFrom all first own → take left after ≡ left_of (position_by all first) hashes (bits_of ones) level 0 n)
      → take left (after ++ rest) ≡ left_of (position_by (take (used + size) (put_mid used k seeds own)) used) hashes
      (bits_of (take size (drop used (put_mid used k words ones)))) level 0 size
  unfolding all_seeds
  left_of-written after rest left few made =
      take-append-le left after rest few ∙ made all_seeds used (stand_written seeds own used size k seeds_inside own_long)
      ∙ ap (λ (m : ℕ). left_of (position_by all_seeds used) hashes (bits_of ones) level 0 m) is
      ∙ ap (λ (ws : List ℕ). left_of (position_by all_seeds used) hashes (bits_of ws) level 0 size) (sym ones_are)

-- where hashes fall by the first seeds, in levels of the first sizes
abbrev pub fall_with : List ℕ → List ℕ → ℕ → ℕ → ℕ → ℕ
fall_with seeds sizes = fall_in (position_by seeds) sizes

pub falls_with : (seeds sizes : List ℕ) → FallsInside (fall_with seeds sizes)
falls_with seeds sizes = λ hash level words some. positions_inside seeds (sum (take level sizes)) hash level words some

-- the first levels, words and seeds of slices, and the hashes that they leave in front
pub record IsBuilt (percent tries : ℕ) (keys sizes words seeds hashes : List ℕ) (levels used left : ℕ) : Type 0 where
  pub leave : Leave (fall_with (take used seeds) (take levels sizes)) keys (take levels sizes) (take used words) (take left hashes)
  pub sized : AreSized (words_for percent) (fall_with (take used seeds) (take levels sizes)) keys (bits_of (take used words)) 0 0 (take levels sizes)
  pub chosen : AreChosen HasBest (fall_with (take used seeds) (take levels sizes)) keys (bits_of (take used words)) 0 0 0 (take levels sizes)
      (seeds_with [] tries) (seeds_with (take used seeds) tries)

module _ (percent tries : ℕ) (keys hashes hashes' words words' seeds seeds' sizes : List ℕ) (level used size left left' : ℕ)
    (before : IsBuilt percent tries keys sizes words seeds hashes level used left)
    (room : level < length sizes) (was : used ≤ length words) (inside : used + size ≤ length words') (enough : used + size ≤ length seeds')
    (same : take used words' ≡ take used words) (seeds_same : take used seeds' ≡ take used seeds)
    (some : 0 < size) (is : size ≡ words_for percent left) (few : left ≤ length hashes)
    (made : IsLevel (position_by (take (used + size) seeds') used) (take left hashes) (bits_of (take size (drop used words'))) level 0 size)
    (after : take left' hashes' ≡ left_of (position_by (take (used + size) seeds') used) (take left hashes) (bits_of (take size (drop used words'))) level 0 size)
    (best : AreBestSeeds level (take left hashes) (min tries 256) (drop used (take (used + size) seeds'))) where
  ones : List ℕ
  ones = take size (drop used words')

  new_seeds : List ℕ
  new_seeds = take (used + size) seeds'

  ones_len : length ones ≡ size
  unfolding ones
  ones_len = length-take-le size (drop used words') (omega (arith, length-drop used words'))

  begin_is : length (take used words) ≡ used
  begin_is = length-take-le used words was

  adds_here : AddsLevel (position_by new_seeds used) (take left hashes) (take level sizes) (take used words) (take (level + 1) (set sizes level size))
      (take (used + size) words') (take left' hashes')
  unfolding ones new_seeds
  adds_here = adds_level (position_by new_seeds used) (positions_inside new_seeds used) (take left hashes) (take left' hashes') (take level sizes) (take used words)
      (take (level + 1) (set sizes level size)) (take (used + size) words') ones size level some
      (length-take-le level sizes (omega (arith, room))) ones_len (take_more_set sizes level size room)
      (take-add used size words' ∙ ap (λ (ws : List ℕ). ws ++ ones) same) made
      (after ∙ ap (λ (n : ℕ). left_of (position_by new_seeds used) (take left hashes) (bits_of ones) level 0 n) (sym ones_len))

  adds : AddsLevel (position_by new_seeds (length (take used words))) (take left hashes) (take level sizes) (take used words)
      (take (level + 1) (set sizes level size)) (take (used + size) words') (take left' hashes')
  adds =
      let P : ℕ → Type 0 = λ n. AddsLevel (position_by new_seeds n) (take left hashes) (take level sizes) (take used words)
      (take (level + 1) (set sizes level size)) (take (used + size) words') (take left' hashes') in
      subst P (sym begin_is) adds_here

  size_same : adds.size ≡ size
  size_same = omega (arith, adds.len, begin_is, length-take-le (used + size) words' inside)

  size_is : adds.size ≡ words_for percent (length (take left hashes))
  size_is = size_same ∙ is ∙ ap (words_for percent) (sym (length-take-le left hashes few))

  -- hashes fall in the levels before as they did
  kept : (begin hash number w : ℕ) → 0 < w → begin + w ≤ length (take used words)
      → position_by new_seeds begin hash number w ≡ position_by (take used seeds) begin hash number w
  unfolding new_seeds
  kept begin hash number w more within =
      position_by-alike (take used seeds) (take (used + size) seeds') used begin hash number w
      (take-take used (used + size) seeds' (omega arith) ∙ seeds_same ∙ sym (take-take used used seeds (omega arith)))
      more (omega (arith, within, begin_is))

  choice : HasBest (seeds_with (take used seeds) tries) (seeds_with new_seeds tries) (length (take used words)) (take left hashes) level adds.size
  unfolding new_seeds
  choice =
      let P : ℕ → ℕ → Type 0 = λ n m.
      HasBest (seeds_with (take used seeds) tries) (seeds_with (take (used + size) seeds') tries) n (take left hashes) level m in
      let here : P used size =
      record {
        tries = refl;
        len = length-take-le (used + size) seeds' enough;
        best = best;
      } in
      subst (λ (n : ℕ). P n adds.size) (sym begin_is) (subst (λ (m : ℕ). P used m) (sym size_same) here)

  pub built_more : IsBuilt percent tries keys (set sizes level size) words' seeds' hashes' (level + 1) (used + size) left'
  unfolding new_seeds
  built_more = record {
    leave = Leave-next (position_by (take used seeds)) (position_by new_seeds) (positions_inside new_seeds) keys (take left hashes) (take left' hashes')
        (take level sizes) (take used words) (take (level + 1) (set sizes level size)) (take (used + size) words') kept before.leave adds;
    sized = AreSized-next (position_by (take used seeds)) (position_by new_seeds) (positions_inside new_seeds) keys (take left hashes) (take left' hashes')
        (take level sizes) (take used words) (take (level + 1) (set sizes level size)) (take (used + size) words') kept before.leave adds
        (words_for percent) before.sized size_is;
    chosen = AreChosen-next (position_by (take used seeds)) (position_by new_seeds) (positions_inside new_seeds) keys (take left hashes) (take left' hashes')
        (take level sizes) (take used words) (take (level + 1) (set sizes level size)) (take (used + size) words') kept before.leave adds
        HasBest (seeds_with [] tries) (seeds_with (take used seeds) tries) (seeds_with new_seeds tries) level before.chosen
        (length-take-le level sizes (omega (arith, room))) choice;
  }

-- where no hash is left, they are numbered
module _ (percent tries : ℕ) (keys sizes words seeds hashes : List ℕ) (levels used left : ℕ)
    (built : IsBuilt percent tries keys sizes words seeds hashes levels used left) (none : left ≡ 0) where
  fall : ℕ → ℕ → ℕ → ℕ
  fall = fall_with (take used seeds) (take levels sizes)

  all : Leave fall keys (take levels sizes) (take used words) []
  unfolding fall
  all = subst (λ (n : ℕ). Leave fall keys (take levels sizes) (take used words) (take n hashes)) none built.leave

  pub built_levels : length (take levels sizes) ≤ 256 → IsShort (take used words)
      → AreLevels (fall_with (take used seeds) (take levels sizes)) (λ (hash : ℕ). hash) keys (take levels sizes) (take used words)
  unfolding fall
  built_levels few short = record {
    perfect = perfect fall (falls_with (take used seeds) (take levels sizes)) keys (take levels sizes) (take used words) all;
    sizes_are = are_sizes fall keys (take levels sizes) (take used words) all few short;
    short = short;
  }

  pub built_ones : ones_of (bits_of (take used words)) ≡ length keys
  unfolding fall
  built_ones =
      let b = bits_of (take used words) in
      let end : 0 + 64 * sum (take levels sizes) ≡ length b = omega (arith, all.all, bits_are_counted (take used words)) in
      let total = (numbered fall (falls_with (take used seeds) (take levels sizes)) keys b 0 0 (take levels sizes) (omega (arith, end)) all.lead).total in
      omega (arith, total, ap (ones_before b) end, none_before_the_first b true)
