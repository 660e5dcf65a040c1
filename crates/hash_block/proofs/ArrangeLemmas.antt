-- Strings that are written one after another, in an order.
use Rattle.std.proofs.Common.{◌≡◌, ◌≢◌, ℕ, zero, ◌+◌, ◌*◌, ◌<◌, ◌≤◌, List, length, set, get_or-set_same, get_or-set_other, length-set, slice_index, refl, sym, ap, ◌∙◌, subst, ⊎_elim, arith}
use Rattle.std.proofs.lemmas.Bool.{cases_lt}
use Rattle.hash_block.specs.Bytes.{byte_of, AreZeroBytesFrom, StandsAt}
use Rattle.hash_block.specs.Given.{given, len_of, total_of, AreArranged}
use Rattle.hash_block.proofs.GivenLemmas.{total_grows, total_next}

-- the strings of the first v numbers stand one after another in `to`, and take `at` bytes; where they begin stands in
-- `starts`, and after these what the order had
pub record Arranging (bytes ends order old starts to : List ℕ) (at v : ℕ) : Type 0 where
  pub total : at ≡ total_of ends order v
  pub done : (w : ℕ) → w < v → slice_index starts w ≡ total_of ends order w
  pub rest : (w : ℕ) → v ≤ w → slice_index starts w ≡ slice_index order w
  pub some : (w : ℕ) → w < v → slice_index order w ≢ 0
  pub same : (w i : ℕ) → w < v → slice_index order w ≡ i + 1 → StandsAt to (total_of ends order w) (given bytes ends i) (len_of ends i)
  pub clear : (k : ℕ) → at ≤ k → k < 8 * length to → byte_of to k ≡ 0
  pub count : length starts ≡ length order
  pub len : length to ≡ length old

-- at first none stands there
pub none_arranged : (bytes ends order old : List ℕ) → AreZeroBytesFrom old 0 → Arranging bytes ends order old order old 0 0
unfolding total_of
none_arranged bytes ends order old clear = record {
  total = refl;
  done = λ w less. absurd (omega (arith, less));
  rest = λ w from. refl;
  some = λ w less. absurd (omega (arith, less));
  same = λ w i less. absurd (omega (arith, less));
  clear = λ k from less. clear k (omega arith) less;
  count = refl;
  len = refl;
}

module _ (bytes ends order old starts to : List ℕ) (at v : ℕ) (h : Arranging bytes ends order old starts to at v) where
  -- the end of a piece is at most where the next one begins
  ends_before : (w i : ℕ) → w < v → slice_index order w ≡ i + 1 → total_of ends order w + len_of ends i ≤ at
  ends_before w i less is =
      omega (arith, h.total, total_next ends order w i is, total_grows ends order (w + 1) v (omega (arith, less)))

  -- one more is written
  pub arranged_more : (new : List ℕ) (i : ℕ) → slice_index order v ≡ i + 1 → v < length order → StandsAt new at (given bytes ends i) (len_of ends i)
      → ((k : ℕ) → k < at → byte_of new k ≡ byte_of to k) → ((k : ℕ) → at + len_of ends i ≤ k → byte_of new k ≡ byte_of to k) → length new ≡ length to
      → Arranging bytes ends order old (set starts v at) new (at + len_of ends i) (v + 1)
  arranged_more new i is inside written before after len = record {
    total = omega (arith, h.total, total_next ends order v i is);
    done = λ w less.
        ⊎_elim
        (λ low. get_or-set_other starts v w at 0 (λ e. omega (arith, e, low)) ∙ h.done w low)
        (λ on.
        let e : w ≡ v = omega (arith, on, less) in
        ap (slice_index (set starts v at)) e
        ∙ get_or-set_same starts v at 0 (omega (arith, inside, h.count))
        ∙ h.total
        ∙ ap (total_of ends order) (sym e))
        (cases_lt w v);
    rest = λ w from. get_or-set_other starts v w at 0 (λ e. omega (arith, e, from)) ∙ h.rest w (omega (arith, from));
    some = λ w less.
        ⊎_elim (λ low. h.some w low)
        (λ on zero_is. let e : w ≡ v = omega (arith, on, less) in omega (arith, is, zero_is, ap (slice_index order) e))
        (cases_lt w v);
    same = λ w k less w_is.
        ⊎_elim
        (λ low j j_less.
        before (total_of ends order w + j) (omega (arith, j_less, ends_before w k low w_is))
        ∙ h.same w k low w_is j j_less)
        (λ on.
        let e : w ≡ v = omega (arith, on, less) in
        let one : i ≡ k = omega (arith, is, w_is, ap (slice_index order) e) in
        subst (λ (x : ℕ). StandsAt new (total_of ends order w) (given bytes ends x) (len_of ends x)) one
        (subst (λ (b : ℕ). StandsAt new b (given bytes ends i) (len_of ends i)) (h.total ∙ ap (total_of ends order) (sym e)) written))
        (cases_lt w v);
    clear = λ k from less. after k from ∙ h.clear k (omega (arith, from)) (omega (arith, less, len));
    count = length-set starts v at ∙ h.count;
    len = len ∙ h.len;
  }

  -- all are written
  pub all_arranged : v ≡ length ends → total_of ends order (length ends) ≡ length bytes → length order ≡ length ends + 1
      → AreArranged bytes ends order (set starts (length ends) at) to
  unfolding total_of
  all_arranged all total count = record {
    first = begins zero (omega arith);
    each = λ w i less is. record {
      len =
          ap (λ b. b + len_of ends i) (begins w (omega (arith, less)))
          ∙ sym (total_next ends order w i is)
          ∙ sym (begins (w + 1) (omega (arith, less)));
      inside =
          omega (
            arith,
            begins (w + 1) (omega (arith, less)),
            begins (length ends) (omega arith),
            total_grows ends order (w + 1) (length ends) (omega (arith, less)),
          );
      same =
          subst (λ (b : ℕ). StandsAt to b (given bytes ends i) (len_of ends i)) (sym (begins w (omega (arith, less))))
          (h.same w i (omega (arith, less, all)) is);
    };
    last = begins (length ends) (omega arith) ∙ total;
    padding = λ k from less. h.clear k (omega (arith, from, h.total, total, ap (total_of ends order) all)) less;
  }
    where
      begins : (w : ℕ) → w ≤ length ends → slice_index (set starts (length ends) at) w ≡ total_of ends order w
      begins w to_end =
          ⊎_elim
          (λ low. get_or-set_other starts (length ends) w at 0 (λ e. omega (arith, e, low)) ∙ h.done w (omega (arith, low, all)))
          (λ on.
          let e : w ≡ length ends = omega (arith, on, to_end) in
          ap (slice_index (set starts (length ends) at)) e
          ∙ get_or-set_same starts (length ends) at 0 (omega (arith, h.count, count))
          ∙ h.total
          ∙ ap (total_of ends order) (all ∙ sym e))
          (cases_lt w (length ends))

  -- there is room for one more
  pub next_fits : (i : ℕ) → slice_index order v ≡ i + 1 → v < length ends → total_of ends order (length ends) ≡ length bytes
      → at + len_of ends i ≤ length bytes
  next_fits i is less total =
      omega (arith, h.total, total, total_next ends order v i is, total_grows ends order (v + 1) (length ends) (omega (arith, less)))
