-- Many queries at once: a search by powers of two, and the record that it ends at.
use Rattle.std.proofs.Common.{◌≡◌, ℕ, ◌+◌, ◌-◌, ◌*◌, ◌%◌, ◌^◌, ◌<◌, ◌≤◌, Bool, List, ◌++◌, take, drop, length, slice_index, slice_index_or, slice_set, subst, sym, ap, ◌∙◌, arith, rules, inl, inr}
use Rattle.std.proofs.lemmas.Bool.{cases_lt}
use Rattle.std.proofs.lemmas.List.{get_or-set_same, get_or-set_other, get_or-take, get_or-drop, length-append, length-take, length-drop, places}
use Rattle.std.proofs.Math.Pow.{pow_mono}
use Rattle.std.proofs.lemmas.Nat.{pow-add}
use Rattle.bit_lists.specs.Bits.{bits_of, IsShort}
use Rattle.bit_lists.specs.Count.{ones_before, count_of, as_bit}
use Rattle.bitm_tables.specs.Entry.{before_in_part, field_0, lower_entry, record_field}
use Rattle.bitm_select.specs.Answers.{list_code, IsSelected, IsSelectedFrom, IsSelectCode}
use Rattle.bitm_select.specs.Many.{IsInPart, IsInRecord, IsNarrowed, IsClaimedRecord}
use Rattle.bitm_select.specs.Search.{sought_bits, sought_in, IsLastPart, IsLastEntry, IsPartOf}
use Rattle.bitm_tables.specs.Tables.{Lists, HasSizes, HasTables, bits_in}
use Rattle.bitm_select.specs.Claims.{count_from_word, claimed_entry, claimed_part, claimed_to, wrong_for_absent, ClaimsNone}
use Rattle.bitm_tables.specs.Answers.{IfAbsent}
use Rattle.bitm_select.specs.declared.many.loaded.InRecord.{InRecord}
use Rattle.bitm_tables.specs.declared.answer.Answer.{Answer}
use Rattle.bitm_tables.specs.declared.answer.Answer.TheVariants.{Found, Absent, Wrong}
use Rattle.bitm_select.proofs.lemmas.MarkLemmas.{none_in_nothing}
use Rattle.bitm_tables.proofs.lemmas.LengthLemmas.{first_of_part, sizes_of}
use Rattle.bitm_select.proofs.lemmas.SelectedLemmas.{bit_kept, has_bit, never_absent, selected, claimed_is}
use Rattle.bitm_select.proofs.lemmas.ClaimedLemmas.{from_word}
use Rattle.bitm_select.proofs.lemmas.SoughtLemmas.{first_none, next_is, rank_is}
use Rattle.bitm_tables.proofs.lemmas.TableLemmas.{entries}
use borrow.Rule.Slice.PartMut.{put_mid}

-- a record behind which no word stands claims none where what is left of the rank did not wrap and the
-- words have no more
pub record_none : (lists : Lists) (v : Bool) (rank : ℕ) (at : InRecord) → HasSizes lists → IsClaimedRecord v lists rank at → rank < 2 ^ 64
    → at.rest ≤ rank → (s : Answer ℕ) → IfAbsent s (length lists.words ≤ at.first + 8)
    → IsSelectedFrom lists.words v at.first (ones_before (sought_bits v (bits_of lists.words)) (64 * at.first) + at.rest) s
    → IfAbsent s (ClaimsNone v lists rank)
record_none lists v rank at sized claimed fits within (Found p) last is = tt
record_none lists v rank at sized claimed fits within Wrong last is = tt
record_none lists v rank at sized claimed fits within Absent last is =
    let e = claimed.entry in
    let k = claimed.k in
    let p = claimed.part in
    let entry_is : length lists.lower - 1 ≡ e = omega (arith, sized.lower_len, claimed.inside, claimed.first, claimed.few, last) in
    let part_is : length lists.upper - 1 ≡ p =
    omega (arith, sized.upper_len, sized.lower_len, claimed.there, claimed.inside, claimed.from, claimed.to, claimed.first, claimed.few, last) in
    let none : count_from_word lists v at.first ≤ at.rest = from_word lists.words v at.first at.rest is in
    let first : at.first ≡ 32 * e + 8 * k = omega (arith, claimed.first) in
    let after : count_from_word lists v (32 * e + 8 * k) ≤ at.rest = subst (λ (n : ℕ). count_from_word lists v n ≤ at.rest) first none in
    let total : (claimed_part v lists p + claimed_to (claimed_entry v lists e) k) % 2 ^ 64 + count_from_word lists v (32 * e + 8 * k) ≤ rank =
    omega (arith, after, claimed.total, within, fits) in
    record {
      k = k;
      inside = claimed.few;
      last = omega (arith, last, first, entry_is);
      count =
          subst
          (λ (q : ℕ).
          (claimed_part v lists q + claimed_to (claimed_entry v lists (length lists.lower - 1)) k) % 2 ^ 64
          + count_from_word lists v (32 * (length lists.lower - 1) + 8 * k) ≤ rank)
          (sym part_is)
          (subst
          (λ (a : ℕ). (claimed_part v lists p + claimed_to (claimed_entry v lists a) k) % 2 ^ 64 + count_from_word lists v (32 * a + 8 * k) ≤ rank)
          (sym entry_is) total);
    }

module _ (bit : ℕ) (lists : Lists) (rank rest : ℕ) where
  -- a search begins at the part's first entry
  pub near_begins : (part : ℕ) → HasTables lists → IsShort lists.words → IsPartOf bit lists rank part rest
      → IsNarrowed bit lists rank rest (part * 2 ^ 21) 21
  near_begins part t short is =
      record {
        part = part;
        low = 0;
        position = omega arith;
        last = subst (λ (n : ℕ). IsLastPart (sought_in bit lists.words) (length lists.upper) n part) is.total is.last;
        total = sym is.total;
        inside = omega (arith, first_of_part lists (sizes_of lists t short) part is.last.inside);
        at_most = omega (arith, first_none (sought_in bit lists.words) part);
        next = λ h. absurd (omega (arith, h));
        room = omega arith;
      }

  module _ (at size : ℕ) (near : IsNarrowed bit lists rank rest at (size + 1)) where
    doubled : 2 ^ (size + 1) ≡ 2 ^ size + 2 ^ size
    doubled = omega (arith, pow-add 2 size 1)

    -- where no more stand before the entry in the middle it is that one or a later one
    pub near_up : at + 2 ^ size < length lists.lower → before_in_part (sought_in bit lists.words) (at + 2 ^ size) ≤ rest
        → IsNarrowed bit lists rank rest (at + 2 ^ size) size
    near_up inside at_most =
        let there : near.part * 2 ^ 21 + (near.low + 2 ^ size) ≡ at + 2 ^ size = omega (arith, near.position) in
        let end : near.low + 2 ^ (size + 1) ≡ near.low + 2 ^ size + 2 ^ size = omega (arith, doubled) in
        record {
          part = near.part;
          low = near.low + 2 ^ size;
          position = sym there;
          last = near.last;
          total = near.total;
          inside = omega (arith, inside, near.position, near.room, doubled);
          at_most = subst (λ (n : ℕ). before_in_part (sought_in bit lists.words) n ≤ rest) (sym there) at_most;
          next =
              λ h.
              subst (λ (n : ℕ). rest < before_in_part (sought_in bit lists.words) (near.part * 2 ^ 21 + n)) end
              (near.next (omega (arith, h, end)));
          room = omega (arith, near.room, end);
        }

    -- where more stand before it, or there is no such entry, it is an earlier one
    pub near_stays : (at + 2 ^ size < length lists.lower → rest < before_in_part (sought_in bit lists.words) (at + 2 ^ size))
        → IsNarrowed bit lists rank rest at size
    near_stays above =
        let there : near.part * 2 ^ 21 + (near.low + 2 ^ size) ≡ at + 2 ^ size = omega (arith, near.position) in
        record {
          part = near.part;
          low = near.low;
          position = near.position;
          last = near.last;
          total = near.total;
          inside = near.inside;
          at_most = near.at_most;
          next =
              λ h.
              subst (λ (n : ℕ). rest < before_in_part (sought_in bit lists.words) n) (sym there) (above (omega (arith, h, there)));
          room = omega (arith, near.room, doubled);
        }

-- in one part, an entry with no more before it, and one 2^size after it with more, have it between them
pub near_between : (bit : ℕ) (lists : Lists) (rank rest at low size : ℕ) → HasTables lists → IsNarrowed bit lists rank rest at 21
    → length lists.upper ≡ 1 → low < 2 ^ 21 → low + 2 ^ size < length lists.lower → low + 2 ^ size ≤ 2 ^ 21
    → before_in_part (sought_in bit lists.words) low ≤ rest → rest < before_in_part (sought_in bit lists.words) (low + 2 ^ size)
    → IsNarrowed bit lists rank rest low size
near_between bit lists rank rest at low size t near one_part few inside room at_most next =
    let first : near.part ≡ 0 = omega (arith, near.last.inside, one_part) in
    let here : near.part * 2 ^ 21 + low ≡ low = omega (arith, first) in
    let there : near.part * 2 ^ 21 + (low + 2 ^ size) ≡ low + 2 ^ size = omega (arith, first) in
    record {
      part = near.part;
      low = low;
      position = sym here;
      last = near.last;
      total = near.total;
      inside = omega (arith, first, few, inside);
      at_most = subst (λ (n : ℕ). before_in_part (sought_in bit lists.words) n ≤ rest) (sym here) at_most;
      next = λ _. subst (λ (n : ℕ). rest < before_in_part (sought_in bit lists.words) n) (sym there) next;
      room = room;
    }

-- halvings of as many entries as there are, or more, are enough
pub near_enough : (bit : ℕ) (lists : Lists) (rank rest at size : ℕ) → IsNarrowed bit lists rank rest at 21 → size ≤ 21
    → (size < 21 → length lists.lower ≤ 2 ^ size) → IsNarrowed bit lists rank rest at size
near_enough bit lists rank rest at size near most enough =
    let first : near.low ≡ 0 = omega (arith, near.room) in
    let small : 2 ^ size ≤ 2 ^ 21 = pow_mono most in
    record {
      part = near.part;
      low = near.low;
      position = near.position;
      last = near.last;
      total = near.total;
      inside = near.inside;
      at_most = near.at_most;
      next =
          λ h.
          elim (cases_lt size 21) [
            | inl below ↦ absurd (omega (arith, h, enough below))
            | inr all ↦
                let same : size ≡ 21 = omega (arith, all, most) in
                absurd (omega (arith, h, ap (λ (n : ℕ). 2 ^ n) same))
          ];
      room = omega (arith, first, small);
    }

-- the search ends at the last entry
pub near_ends : (bit : ℕ) (lists : Lists) (rank rest at : ℕ) → (near : IsNarrowed bit lists rank rest at 0)
    → IsLastEntry (sought_in bit lists.words) (length lists.lower) near.part rest near.low
near_ends bit lists rank rest at near = record { inside = near.inside; at_most = near.at_most; next = near.next }

-- a search that finds the last entry of the part ends there
pub near_found : (bit : ℕ) (lists : Lists) (rank rest part low : ℕ) → IsPartOf bit lists rank part rest
    → IsLastEntry (sought_in bit lists.words) (length lists.lower) part rest low
    → IsNarrowed bit lists rank rest (part * 2 ^ 21 + low) 0
near_found bit lists rank rest part low is last =
    record {
      part = part;
      low = low;
      position = omega arith;
      last = subst (λ (n : ℕ). IsLastPart (sought_in bit lists.words) (length lists.upper) n part) is.total is.last;
      total = sym is.total;
      inside = last.inside;
      at_most = last.at_most;
      next = last.next;
      room = omega (arith, last.inside);
    }

-- a search of fewer entries from its own on stays in its part
pub part_stays : (v : Bool) (lists : Lists) (rank rest at i j : ℕ) → i ≤ j → IsInPart v lists rank (record { rest = rest; entry = at }) j
    → IsInPart v lists rank (record { rest = rest; entry = at }) i
part_stays v lists rank rest at i j le is =
    let small : 2 ^ i ≤ 2 ^ j = pow_mono le in
    record { part = is.part; there = is.there; from = is.from; to = omega (arith, is.to, small); fits = is.fits; rest = is.rest }

-- and so does one that goes over half of them
pub part_up : (v : Bool) (lists : Lists) (rank rest at i : ℕ) → IsInPart v lists rank (record { rest = rest; entry = at }) (i + 1)
    → IsInPart v lists rank (record { rest = rest; entry = at + 2 ^ i }) i
part_up v lists rank rest at i is =
    record {
      part = is.part;
      there = is.there;
      from = omega (arith, is.from);
      to = omega (arith, is.to, pow-add 2 i 1);
      fits = is.fits;
      rest = is.rest;
    }

-- the record that is chosen in the entry where the search ends
module _ (bit : ℕ) (lists : Lists) (rank rest at packed count position before : ℕ) (t : HasTables lists)
    (near : IsNarrowed bit lists rank rest at 0) (packed_is : packed ≡ lower_entry (sought_in bit lists.words) at)
    (count_is : count ≡ field_0 packed) (small : position < 4) (before_is : before ≡ record_field packed position)
    (at_most : before ≤ rest - count) (next : position < 3 → rest - count < record_field packed (position + 1)) where
  there : ℕ
  there = near.part * 2 ^ 21 + near.low

  packed_there : packed ≡ lower_entry (sought_in bit lists.words) (near.part * 2 ^ 21 + near.low)
  packed_there = packed_is ∙ ap (lower_entry (sought_in bit lists.words)) near.position

  part : IsLastPart (sought_in bit lists.words) (length lists.upper)
      (ones_before (sought_in bit lists.words) (near.part * 2 ^ 32) + rest) near.part
  part =
      subst (λ (r : ℕ). IsLastPart (sought_in bit lists.words) (length lists.upper) r near.part) near.total near.last

  total : ones_before (sought_in bit lists.words) (64 * ((near.part * 2 ^ 21 + near.low) * 32 + position * 8)) + (rest - count - before)
      ≡ ones_before (sought_in bit lists.words) (near.part * 2 ^ 32) + rest
  total =
      rank_is lists.words lists.upper lists.lower t (sought_in bit lists.words) near.part rest near.low position packed count before
      part (near_ends bit lists rank rest at near) packed_there count_is small before_is at_most next

  after : (near.part * 2 ^ 21 + near.low) * 32 + position * 8 + 8 < length lists.words
      → ones_before (sought_in bit lists.words) (64 * ((near.part * 2 ^ 21 + near.low) * 32 + position * 8)) + (rest - count - before)
      < ones_before (sought_in bit lists.words) (64 * ((near.part * 2 ^ 21 + near.low) * 32 + position * 8 + 8))
  after =
      next_is lists.words lists.upper lists.lower t (sought_in bit lists.words) near.part rest near.low position packed count before
      part (near_ends bit lists rank rest at near) packed_there count_is small before_is at_most next

  pub near_loads : (rank ≡ ones_before (sought_in bit lists.words) (64 * (at * 32 + position * 8)) + (rest - count - before))
      × (at * 32 + position * 8 + 8 < length lists.words → rank < ones_before (sought_in bit lists.words) (64 * (at * 32 + position * 8 + 8)))
  near_loads =
      let same : (near.part * 2 ^ 21 + near.low) * 32 + position * 8 ≡ at * 32 + position * 8 = omega (arith, near.position) in
      let here = ap (λ (n : ℕ). ones_before (sought_in bit lists.words) (64 * n)) same in
      let end = ap (λ (n : ℕ). ones_before (sought_in bit lists.words) (64 * (n + 8))) same in
      (omega (arith, near.total, total, here), λ h. omega (arith, near.total, total, after (omega (arith, h, same)), end))

-- what is reported of a selection in the record, where what is left of the rank did not wrap, and where it did
module _ (bit : ℕ) (lists : Lists) (rank : ℕ) (at : InRecord) (sized : HasSizes lists) (there : IsInRecord bit lists rank at) where
  right : (s : Answer ℕ) → IsSelectedFrom lists.words (as_bit bit) at.first (ones_before (sought_in bit lists.words) (64 * at.first) + at.rest) s
      → HasTables lists → IsSelected (bits_in lists) (as_bit bit) rank s
  right s is t =
      selected lists.words (as_bit bit) at.first rank s (there.next t)
      (subst (λ (n : ℕ). IsSelectedFrom lists.words (as_bit bit) at.first n s) (sym (there.total t)) is)

  pub claimed_record : (s s' : Answer ℕ) → rank < 2 ^ 64 → (at.rest ≤ rank → s' ≡ s) → (rank < at.rest → s' ≡ wrong_for_absent s)
      → IfAbsent s (length lists.words ≤ at.first + 8)
      → IsSelectedFrom lists.words (as_bit bit) at.first (ones_before (sought_in bit lists.words) (64 * at.first) + at.rest) s
      → IsSelectCode (as_bit bit) lists rank (list_code s')
  claimed_record s s' fits kept wrapped last is =
      let R = ones_before (sought_in bit lists.words) (64 * at.first) + at.rest in
      elim (cases_lt rank at.rest) [
        | inl over ↦
            subst (λ (x : Answer ℕ). IsSelectCode (as_bit bit) lists rank (list_code x)) (sym (wrapped over))
            (claimed_is (as_bit bit) lists rank sized.short (wrong_for_absent s)
            (bit_kept (bits_in lists) (as_bit bit) s (has_bit lists.words (as_bit bit) at.first R s is)) (never_absent (ClaimsNone (as_bit bit) lists rank) s)
            (λ t. absurd (omega (arith, over, there.total t))))
        | inr within ↦
            subst (λ (x : Answer ℕ). IsSelectCode (as_bit bit) lists rank (list_code x)) (sym (kept within))
            (claimed_is (as_bit bit) lists rank sized.short s (has_bit lists.words (as_bit bit) at.first R s is)
            (record_none lists (as_bit bit) rank at sized there.claimed fits within s last is)
            (right s is))
      ]

-- ---- lists that are written item by item: what holds of the items so far, and of those that are left

at_once : (k : ℕ) (Q : ℕ → Type 0) → Q k → ((j : ℕ) → j < k → Q j) → (j : ℕ) → j < k + 1 → Q j
at_once k Q new old j h =
    elim (cases_lt j k) [
      | inl below ↦ old j below
      | inr over ↦ let e : k ≡ j = omega (arith, over, h) in subst Q e new
    ]

module _ {A : Type 0} (P : ℕ → A → Type 0) (xs : List A) (k : ℕ) (v : A) (inside : k < length xs) where
  pub written : P k v → ((j : ℕ) (d : A) → j < k → P j (slice_index_or xs j d)) → (j : ℕ) (d : A) → j < k + 1
      → P j (slice_index_or (slice_set xs k v) j d)
  written new old j d =
      at_once k (λ j. P j (slice_index_or (slice_set xs k v) j d)) (subst (P k) (sym (get_or-set_same xs k v d inside)) new)
      (λ j h. subst (P j) (sym (get_or-set_other xs k j v d (λ e. omega (arith, e, h)))) (old j d h)) j

  pub unwritten : (n : ℕ) → ((j : ℕ) (d : A) → k ≤ j → j < n → P j (slice_index_or xs j d)) → (j : ℕ) (d : A) → k + 1 ≤ j → j < n
      → P j (slice_index_or (slice_set xs k v) j d)
  unwritten n old j d h l =
      subst (P j) (sym (get_or-set_other xs k j v d (λ e. omega (arith, e, h)))) (old j d (omega (arith, h)) l)

-- ---- a part of a list that is written at once

pub put_below : (a k : ℕ) (xs ys : List ℕ) (j : ℕ) → j < a → a ≤ length xs → slice_index (put_mid a k xs ys) j ≡ slice_index xs j
put_below a k xs ys j h inside = search (rules, places)

pub put_inside : (a k : ℕ) (xs ys : List ℕ) (j : ℕ) → j < length ys → a ≤ length xs
    → slice_index (put_mid a k xs ys) (a + j) ≡ slice_index ys j
put_inside a k xs ys j h inside = search (rules, places)

pub put_long : (a n : ℕ) (xs ys : List ℕ) → a + n ≤ length xs → length ys ≡ n → length (put_mid a (a + n - a) xs ys) ≡ length xs
put_long a n xs ys inside long =
    omega (
      arith,
      long,
      length-append (take a xs) (ys ++ drop (a + n - a) (drop a xs)),
      length-append ys (drop (a + n - a) (drop a xs)),
      length-take a xs,
      length-drop (a + n - a) (drop a xs),
      length-drop a xs,
    )

-- a part of a list has so many items
pub part_long : (xs : List ℕ) (a n : ℕ) → a + n ≤ length xs → length (take (a + n - a) (drop a xs)) ≡ n
part_long xs a n h = omega (arith, length-take (a + n - a) (drop a xs), length-drop a xs)

-- an item of a part
pub part_item : (xs : List ℕ) (a n j : ℕ) → j < n → slice_index (take (a + n - a) (drop a xs)) j ≡ slice_index xs (a + j)
part_item xs a n j h = get_or-take (a + n - a) (drop a xs) j 0 (omega arith) ∙ get_or-drop a xs j 0

-- what is written at once are the answers of a part, after those that stand
pub answers_follow : (P : ℕ → ℕ → Type 0) (from n : ℕ) (ranks positions new : List ℕ) → from + n ≤ length positions → length new ≡ n
    → ((j : ℕ) → j < from → P (slice_index ranks j) (slice_index positions j))
    → ((j : ℕ) → j < n → P (slice_index (take (from + n - from) (drop from ranks)) j) (slice_index new j))
    → (j : ℕ) → j < from + n → P (slice_index ranks j) (slice_index (put_mid from (from + n - from) positions new) j)
answers_follow P from n ranks positions new inside long old added j h =
    let after = put_mid from (from + n - from) positions new in
    elim (cases_lt j from) [
      | inl below ↦
          subst (P (slice_index ranks j)) (sym (put_below from (from + n - from) positions new j below (omega (arith, inside)))) (old j below)
      | inr over ↦
          let at : from + (j - from) ≡ j = omega (arith, over) in
          let k : j - from < n = omega (arith, over, h) in
          let there : slice_index after j ≡ slice_index new (j - from) =
          ap (slice_index after) (sym at)
          ∙ put_inside from (from + n - from) positions new (j - from) (omega (arith, k, long)) (omega (arith, inside)) in
          let rank : slice_index (take (from + n - from) (drop from ranks)) (j - from) ≡ slice_index ranks j =
          part_item ranks from n (j - from) k ∙ ap (slice_index ranks) at in
          subst (P (slice_index ranks j)) (sym there) (subst (λ (r : ℕ). P r (slice_index new (j - from))) rank (added (j - from) k))
    ]

-- a content that has an item of the kind has a part
pub some_part : (bit : ℕ) (lists : Lists) (rank : ℕ) → HasTables lists → rank < count_of (bits_of lists.words) (as_bit bit)
    → 0 < length lists.upper
some_part bit lists rank t some =
    let e = entries (bits_of lists.words) lists.upper lists.lower t in
    elim (cases_lt 0 (length (bits_of lists.words))) [
      | inl long ↦ omega (arith, e.upper_length, long)
      | inr none ↦
          absurd (omega (arith, some, none_in_nothing (bits_of lists.words) (as_bit bit) rank (omega (arith, none))))
    ]
