-- What is grown, from what its parts are.
use Rattle.std.proofs.Common.{◌≡◌, ℕ, ◌+◌, ◌-◌, ◌*◌, ◌^◌, ◌<◌, ◌≤◌, List, length, get_or, take, drop, replicate, slice_index, sym, ap, ◌∙◌, subst, ⊎_elim, arith}
use Rattle.std.specs.Int.{div_ceil}
use Rattle.std.specs.List.{sum}
use Rattle.std.proofs.lemmas.Bool.{cases_lt}
use Rattle.std.proofs.lemmas.List.{get_or-drop, get_or-take, get_or_past, length-replicate, length-take, take-replicate}
use Rattle.louds.proofs.lemmas.ParentsLemmas.{IsCounted}
use Rattle.tree_block.specs.Words.{dictionary_word}
use Rattle.tree_block.proofs.StepLemmas.{no_sum}

-- a letter of a word is a byte
pub letter_fits : (bytes starts : List ℕ) → ((k : ℕ) → get_or bytes k 0 < 2 ^ 8) → (j k : ℕ) → slice_index (dictionary_word bytes starts j) k < 2 ^ 8
letter_fits bytes starts small j k =
    let a = slice_index starts j in
    let n = slice_index starts (j + 1) - a in
    ⊎_elim
    (λ less.
    let is : get_or (take n (drop a bytes)) k 0 ≡ get_or bytes (a + k) 0 = get_or-take n (drop a bytes) k 0 less ∙ get_or-drop a bytes k 0 in
    subst (λ (x : ℕ). x < 2 ^ 8) (sym is) (small (a + k)))
    (λ past.
    let none : get_or (take n (drop a bytes)) k 0 ≡ 0 =
    get_or_past (take n (drop a bytes)) k 0 (omega (arith, past, length-take n (drop a bytes))) in
    omega (arith, none))
    (cases_lt k n)

-- zeros count no parent
pub none_counted : (ps g : List ℕ) → g ≡ replicate (length ps + 1) 0 → IsCounted ps 0 g
none_counted ps g is = record {
  len = ap length is ∙ length-replicate (length ps + 1) 0;
  each = λ v less. absurd (omega (arith, less));
  all = ap sum is ∙ no_sum (length ps + 1);
  low = λ q above less.
      ap (λ xs. sum (take (q + 1) xs)) is
      ∙ ap sum (take-replicate (q + 1) (length ps + 1) 0 (omega (arith, less, ap length is, length-replicate {A = ℕ} (length ps + 1) 0)))
      ∙ no_sum (q + 1);
}

-- a bit for each node is room for all of them
pub ends_hold : (n e : ℕ) → e ≡ div_ceil n 64 → n ≤ 64 * e
ends_hold n e is = omega (arith, is)
