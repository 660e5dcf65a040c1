-- A block of a matrix that is written level by level.
use Rattle.std.proofs.Common.{◌≡◌, ℕ, zero, suc, ◌+◌, ◌-◌, ◌*◌, ◌≤◌, Bool, true, false, IsTrue, List, ◌++◌, length, take, drop, refl, sym, ap, ◌∙◌, subst, arith, add-one}
use Rattle.std.proofs.lemmas.List.{drop-take, length-drop, length-take-le, take-take}
use Rattle.std.specs.List.{slice_range}
use Rattle.bit_lists.specs.Bits.{bits_of}
use Rattle.bit_lists.proofs.BitLaws.{bits_are_counted}
use Rattle.bitm_tables.specs.Tables.{IsIndexed}
use Rattle.bitm_block.proofs.PartsLemmas.{cut}
use Rattle.bitm_block.specs.Layout.{end_of}
use Rattle.bitm_block.specs.Written.{IsSealed}
use Rattle.levels_view.specs.Check.{AreCounts}
use Rattle.levels_view.specs.Levels.{levels_of, AreNumbers}
use Rattle.tables_view.specs.Sizes.{lists_of}
use Rattle.matrix_levels.specs.Levels.{column, columns, partition}
use Rattle.matrix_levels.specs.Matrix.{level_items, matrix_words}
use Rattle.matrix_levels.proofs.lemmas.ColumnLemmas.{length-level}
use Rattle.matrix_levels.proofs.lemmas.DecodeLemmas.{any-levels, items-fit, items-len}
use Rattle.matrix_levels.proofs.lemmas.MakeLemmas.{columns-held, columns-none, level-more, level-none}
use Rattle.matrix_block.proofs.BlockLemmas.{block_is, parts-are, stands, stands-on, HaveLengths}
use Rattle.matrix_block.specs.Block.{end_at, first_at, lists_in, matrix_head, sections_with, CanHold, HaveHints, HaveQuarters, IsSoundBlock, StandsIn}
use Rattle.matrix_block.specs.Room.{IsRoomOf, MatrixRoom}
use Rattle.matrix_block.specs.Levelwise.{level_bits, AreLevelsWritten, Completes, HoldsLevels, LevelsRoundTrip, WritesLevel, WritesLevels}

-- the words of the levels, where a block is split at them
pub words-of : (block : List ℕ) (i m : ℕ) → slice_range block i (i + m) ≡ take m (drop i block)
words-of block i m = let n : i + m - i ≡ m = omega arith in ap (λ k. take k (drop i block)) n

pub words-len : (block : List ℕ) (i m : ℕ) → i + m ≤ length block → length (slice_range block i (i + m)) ≡ m
words-len block i m inside =
    ap (λ (ws : List ℕ). length ws) (words-of block i m) ∙ length-take-le m (drop i block) (omega (arith, length-drop i block, inside))

-- and where it is put together
pub words-in : (head words tables : List ℕ) (i m : ℕ) → length head ≡ i → length words ≡ m → slice_range (head ++ (words ++ tables)) i (i + m) ≡ words
words-in head words tables i m head_len words_len = cut head words tables i (i + m) (sym head_len) (omega (arith, words_len))

-- those of a block's front are the block's
pub words-front : (block : List ℕ) (i m k : ℕ) → i + m ≤ k → slice_range (take k block) i (i + m) ≡ slice_range block i (i + m)
words-front block i m k less =
    let all : k ≡ i + (k - i) = omega (arith, less) in
    words-of (take k block) i m
    ∙ ap (λ j. take m (drop i (take j block))) all
    ∙ ap (take m) (drop-take i (k - i) block)
    ∙ take-take m (k - i) (drop i block) (omega (arith, less))
    ∙ sym (words-of block i m)

-- ---- level by level

-- before the first level there is nothing to keep
pub no-level : (d n : ℕ) (a b : List Bool) → d ≡ 0 → take (d * n) a ≡ take (d * n) b
no-level d n a b e = let none : d * n ≡ 0 = omega (arith, ap (λ k. k * n) e) in ap (λ k. take k a) none ∙ sym (ap (λ k. take k b) none)

-- a level that is written where the block has its words
pub writes-level : (w d i : ℕ) (old new block head before first words tables : List ℕ) → length head ≡ i
    → length words ≡ matrix_words (length old) w → before ≡ take (matrix_words (length old) w) (drop i block)
    → take (d * length old) (bits_of first) ≡ take (d * length old) (bits_of before)
    → take ((d + 1) * length old) (bits_of words) ≡ take (d * length old) (bits_of first) ++ column (w - 1 - d) old
    → new ≡ partition (w - 1 - d) old → WritesLevel w d i old new block (head ++ (words ++ tables))
writes-level w d i old new block head before first words tables head_len words_len own kept written sorted =
    let n = length old in
    let m = matrix_words n w in
    let stays : take (d * n) (bits_of first) ≡ take (d * n) (level_bits block i n w) =
    kept ∙ ap (λ ws. take (d * n) (bits_of ws)) (own ∙ sym (words-of block i m)) in
    record {
      bits =
          ap (λ ws. take ((d + 1) * n) (bits_of ws)) (words-in head words tables i m head_len words_len)
          ∙ written ∙ ap (λ l. l ++ column (w - 1 - d) old) stays;
      numbers = sorted;
    }

level-step : (xs : List ℕ) (w d i : ℕ) (old new old_block new_block : List ℕ) → AreLevelsWritten xs w d i old_block old
    → WritesLevel w d i old new old_block new_block → AreLevelsWritten xs w (d + 1) i new_block new
level-step xs w d i old new old_block new_block before writes =
    let same : length old ≡ length xs = ap (λ (l : List ℕ). length l) before.order ∙ length-level xs w d in
    let P : ℕ → Type 0 = λ n. take ((d + 1) * n) (level_bits new_block i n w) ≡ take (d * n) (level_bits old_block i n w) ++ column (w - 1 - d) old in
    record {
      levels =
          columns-held xs w d old (level_bits old_block i (length xs) w) (level_bits new_block i (length xs) w) before.order before.levels (subst P same writes.bits);
      order = level-more xs new w d old before.order writes.numbers;
    }

all-written : (xs : List ℕ) (w d i : ℕ) (blocks rests : ℕ → List ℕ) → WritesLevels xs w i blocks rests → d ≤ w
    → AreLevelsWritten xs w d i (blocks d) (rests d)
all-written xs w zero i blocks rests writes most = record {
  levels = columns-none xs w (level_bits (blocks 0) i (length xs) w);
  order = writes.first ∙ level-none xs w;
}
all-written xs w (suc d) i blocks rests writes most =
    let P : ℕ → Type 0 = λ k. AreLevelsWritten xs w k i (blocks k) (rests k) in
    subst P (add-one d)
    (level-step xs w d i _ _ _ _ (all-written xs w d i blocks rests writes (omega (arith, most))) (writes.each d (omega (arith, most))))

pub levels_round_trip : LevelsRoundTrip
levels_round_trip = record {
  written = all-written;
  block = λ xs w i blocks rests block writes can completes.
      completes xs refl can (all-written xs w w i blocks rests writes (omega arith)).levels;
}

-- ---- the block that is completed

-- the tables of the words that stand in a block, where its sections are
pub parts-stand : (n w i k : ℕ) (old head words gap upper gap2 lower gap3 ones gap4 zeros tail : List ℕ)
    → HaveLengths i n w head words gap upper gap2 lower gap3 ones gap4 zeros → words ≡ slice_range old i (i + matrix_words n w) → k ≡ w
    → IsIndexed (lists_of words upper lower) → AreCounts (levels_of n k ones zeros) (bits_of words)
    → (xs : List ℕ) → length xs ≡ n → CanHold xs w → HoldsLevels xs w w i old
    → StandsIn xs w i (head ++ ((words ++ gap) ++ ((upper ++ gap2) ++ ((lower ++ gap3) ++ ((ones ++ gap4) ++ (zeros ++ tail))))))
parts-stand n w i k old head words gap upper gap2 lower gap3 ones gap4 zeros tail has own same indexed counts xs len can holds =
    let lens = subst (λ m. HaveLengths i m w head words gap upper gap2 lower gap3 ones gap4 zeros) (sym len) has in
    let those : words ≡ slice_range old i (i + matrix_words (length xs) w) = subst (λ m. words ≡ slice_range old i (i + matrix_words m w)) (sym len) own in
    stands xs w i head words gap upper gap2 lower gap3 ones gap4 zeros tail lens
    (parts-are xs w k words upper lower ones zeros can lens.words_len lens.upper_len lens.lower_len lens.ones_len lens.zeros_len same
    (ap (λ ws. take (w * length xs) (bits_of ws)) those ∙ holds) indexed
    (subst (λ m. AreCounts (levels_of m k ones zeros) (bits_of words)) (sym len) counts))

-- whatever the numbers, a call writes the sections of those whose levels stand in the old block
abbrev pub Stands : ℕ → ℕ → ℕ → List ℕ → List ℕ → Type 0
Stands n w i old new = (xs : List ℕ) → length xs ≡ n → CanHold xs w → HoldsLevels xs w w i old → StandsIn xs w i new

-- the sections that stand in the room after the first i words
pub room-stands : (n w i : ℕ) (old head source room : List ℕ) (r : MatrixRoom) → length head ≡ i → source ≡ drop i old → IsRoomOf source n w room r
    → Stands n w i old (head ++ ((r.words ++ r.words_gap) ++ ((r.upper ++ r.upper_gap) ++ ((r.lower ++ r.lower_gap)
    ++ ((r.ones ++ r.ones_gap) ++ (r.zeros ++ r.zeros_gap))))))
room-stands n w i old head source room r head_len own is =
    let made = is.copies in
    parts-stand n w i w old head r.words r.words_gap r.upper r.upper_gap r.lower r.lower_gap r.ones r.ones_gap r.zeros r.zeros_gap
    (record {
      head_len = head_len;
      words_len = made.words_len;
      gap_len = omega (arith, made.words_len, is.words_room);
      upper_len = made.upper_len;
      gap2_len = omega (arith, made.upper_len, is.upper_room);
      lower_len = made.lower_len;
      gap3_len = omega (arith, made.lower_len, is.lower_room);
      ones_len = made.ones_len;
      gap4_len = omega (arith, made.ones_len, is.ones_room);
      zeros_len = made.zeros_len;
    })
    (made.words_are ∙ ap (take (matrix_words n w)) own ∙ sym (words-of old i (matrix_words n w)))
    refl made.indexed made.counts

-- what stands in the front
pub front-stands : (n w i : ℕ) (block front back : List ℕ) → length front ≡ end_at i n w → Stands n w i (take (end_at i n w) block) front
    → Stands n w i block (front ++ back)
front-stands n w i block front back whole has xs len can holds =
    let full : length front ≡ end_at i (length xs) w = subst (λ m. length front ≡ end_at i m w) (sym len) whole in
    let words : level_bits (take (end_at i n w) block) i (length xs) w ≡ level_bits block i (length xs) w =
    ap bits_of (words-front block i (matrix_words (length xs) w) (end_at i n w)
    (subst (λ m. i + matrix_words (length xs) w ≤ end_at i m w) len (omega arith))) in
    stands-on xs w i front back full (has xs len can (ap (take (w * length xs)) words ∙ holds))

-- a block has room for the levels
pub has-room : (n w : ℕ) (q h : Bool) → first_at q h + matrix_words n w ≤ end_of (sections_with n w q h)
has-room n w true true = omega arith
has-room n w true false = omega arith
has-room n w false true = omega arith
has-room n w false false = omega arith

-- any words hold numbers
module _ (n w i : ℕ) (block : List ℕ) (numbers : AreNumbers n w) (room : i + matrix_words n w ≤ length block) where
  abbrev bits : List Bool
  bits = level_bits block i n w

  enough : w * n ≤ length bits
  enough =
      let m = matrix_words n w in
      omega (arith, bits_are_counted (slice_range block i (i + m)), words-len block i m room)

  abbrev held : List ℕ
  held = level_items bits w n

  held-len : length held ≡ n
  held-len = items-len bits w n enough

  held-fit : CanHold held w
  held-fit = record {
    numbers = subst (λ m. AreNumbers m w) (sym held-len) numbers;
    fit = items-fit bits w n enough;
  }

  held-stand : HoldsLevels held w w i block
  held-stand = subst (λ m. take (w * m) (level_bits block i m w) ≡ columns held w w) (sym held-len) (any-levels bits w n enough)

  -- so that the tables are always those of the words
  pub are-indexed : (new : List ℕ) → Stands n w i block new → IsIndexed (lists_in new i n w)
  are-indexed new has = subst (λ m. IsIndexed (lists_in new i m w)) held-len (has held held-len held-fit held-stand).matrix.indexed

  -- and a block that is completed holds a matrix
  pub is-sound : (new : List ℕ) → Completes n w i block new → IsSoundBlock new
  is-sound new completes = (completes held held-len held-fit held-stand).sound

-- a sealed block is completed
pub is-completed : (n w : ℕ) (q h : Bool) (old mid new : List ℕ) → IsSealed (matrix_head n w) (sections_with n w q h) mid new
    → Stands n w (first_at q h) old mid → (IsTrue q → HaveQuarters n w (first_at q h) mid) → (IsTrue h → HaveHints n w (first_at q h) q mid)
    → Completes n w (first_at q h) old new
is-completed n w q h old mid new sealed has quarters hints xs len can holds =
    block_is xs w q h mid new can (subst (λ m. IsSealed (matrix_head m w) (sections_with m w q h) mid new) (sym len) sealed)
    (has xs len can holds) (λ asked. subst (λ m. HaveQuarters m w (first_at q h) mid) (sym len) (quarters asked))
    (λ asked. subst (λ m. HaveHints m w (first_at q h) q mid) (sym len) (hints asked))
