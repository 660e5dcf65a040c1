-- Words that stand one after another in bytes.
use Rattle.std.proofs.Common.{◌≡◌, ℕ, zero, suc, ◌+◌, ◌-◌, ◌<◌, ◌≤◌, List, length, drop, slice_index, sym, ap, ◌∙◌, arith, length-drop}
use Rattle.std.proofs.lemmas.List.{length-take-le}
use Rattle.tree_block.specs.Words.{added, common, dictionary_word, shared_of, words_in, AreWords}
use Rattle.tree_block.proofs.LevelLemmas.{added_more, added_none, shared_next}

module _ (bytes starts : List ℕ) (are : AreWords bytes starts) where
  starts_grow : (i m : ℕ) → i + m < length starts → slice_index starts i ≤ slice_index starts (i + m)
  starts_grow i zero inside = let e : i + 0 ≡ i = omega arith in omega (arith, ap (slice_index starts) e)
  starts_grow i (suc m) inside =
      let e : i + suc m ≡ i + m + 1 = omega arith in
      omega (arith, ap (slice_index starts) e, are.rise (i + m) (omega arith), starts_grow i m (omega arith))

  pub start_order : (i j : ℕ) → i ≤ j → j < length starts → slice_index starts i ≤ slice_index starts j
  start_order i j le inside =
      let e : i + (j - i) ≡ j = omega arith in
      omega (arith, ap (slice_index starts) e, starts_grow i (j - i) (omega arith))

  pub start_inside : (j : ℕ) → j < length starts → slice_index starts j ≤ length bytes
  start_inside j inside = omega (arith, are.inside, start_order j (length starts - 1) (omega arith) (omega arith))

  pub word_len : (j : ℕ) → j + 1 < length starts → length (dictionary_word bytes starts j) + slice_index starts j ≡ slice_index starts (j + 1)
  word_len j inside =
      let a = slice_index starts j in
      let b = slice_index starts (j + 1) in
      let order = are.rise j inside in
      let fits : b ≤ length bytes = start_inside (j + 1) inside in
      let rest = length-drop a bytes in
      omega (arith, order, length-take-le (b - a) (drop a bytes) (omega (arith, order, fits, rest)))

  -- the words add no more nodes than they have bytes
  pub added_below : (j : ℕ) → j < length starts → added (words_in bytes starts) j ≤ slice_index starts j
  added_below zero inside = omega (arith, added_none (words_in bytes starts))
  added_below (suc j) inside =
      let e : j + 1 ≡ suc j = omega arith in
      let less : j + 1 < length starts = omega (arith, inside) in
      omega (
        arith,
        ap (added (words_in bytes starts)) e,
        ap (slice_index starts) e,
        added_more (words_in bytes starts) j,
        word_len j less,
        added_below j (omega (arith, less)),
      )

-- what two words share that stand side by side
pub shared_is : (bytes starts : List ℕ) (j r : ℕ) (u v : List ℕ) → 0 < j → u ≡ dictionary_word bytes starts (j - 1) → v ≡ dictionary_word bytes starts j → r ≡ common u v
    → r ≡ shared_of (words_in bytes starts) j
shared_is bytes starts j r u v some u_is v_is is =
    let e : j - 1 + 1 ≡ j = omega arith in
    is
    ∙ ap (λ (x : List ℕ). common x v) u_is
    ∙ ap (λ (y : List ℕ). common (dictionary_word bytes starts (j - 1)) y) (v_is ∙ ap (dictionary_word bytes starts) (sym e))
    ∙ sym (shared_next (words_in bytes starts) (j - 1))
    ∙ ap (shared_of (words_in bytes starts)) e
