-- The entries and the words that are written, section by section.
use Rattle.std.proofs.Common.{◌≡◌, ℕ, zero, suc, ◌+◌, ◌-◌, ◌*◌, ◌<◌, ◌≤◌, List, [], ◌∷◌, ◌++◌, length, get_or, take, drop, replicate, sum_by, refl, sym, ap, ◌∙◌, append_assoc, length-append, length-drop, arith}
use Rattle.std.proofs.lemmas.List.{drop-drop, drop_at, length-replicate, length-take-le, take-take, take_at}
use Rattle.std.proofs.lemmas.List.Sums.{sum_by-cons}
use Rattle.bitm_block.specs.Checksum.{checksum_of}
use Rattle.bitm_block.specs.Layout.{end_of, head_of, room_of, words_of}
use Rattle.bitm_block.specs.Written.{block_of, body_of, directory_entry, directory_of, entries_of, filled, header_of}
use Rattle.bitm_block.specs.declared.head.Head.{Head}
use Rattle.bitm_block.specs.declared.layout.Section.{Section}
use Rattle.bitm_block.proofs.LayoutLemmas.{words_fit}

-- a section and its zeros fill its room
pub filled_len : (s : Section) (words : List ℕ) → room_of s ≤ length words → length (filled s words) ≡ room_of s
filled_len s words long =
    omega (
      arith,
      length-append (take (words_of s) words) (replicate (room_of s - words_of s) 0),
      length-take-le (words_of s) words (omega (arith, words_fit s, long)),
      length-replicate {A = ℕ} (room_of s - words_of s) 0,
      words_fit s,
    )

pub body_len : (ss : List Section) (words : List ℕ) → length words ≡ sum_by room_of ss → length (body_of ss words) ≡ sum_by room_of ss
unfolding body_of
body_len [] words long = refl
body_len (s ∷ ss) words long =
    let all : sum_by room_of (s ∷ ss) ≡ room_of s + sum_by room_of ss = sum_by-cons room_of s ss in
    let rest : length (drop (room_of s) words) ≡ sum_by room_of ss = omega (arith, length-drop (room_of s) words, long, all) in
    omega (
      arith,
      all,
      length-append (filled s words) (body_of ss (drop (room_of s) words)),
      filled_len s words (omega (arith, long, all)),
      body_len ss (drop (room_of s) words) rest,
    )

pub entries_len : (at : ℕ) (ss : List Section) (words : List ℕ) → length (entries_of at ss words) ≡ 4 * length ss
unfolding entries_of
entries_len at [] words = refl
entries_len at (s ∷ ss) words = omega (arith, entries_len (at + room_of s) ss (drop (room_of s) words))

-- entry i of a directory is that of a section which begins at word `at`
pub record HasEntry (entries : List ℕ) (i at : ℕ) (s : Section) (part : List ℕ) : Type 0 where
  pub role : get_or entries (4 * i) 0 ≡ s.role
  pub at_is : get_or entries (4 * i + 1) 0 ≡ 8 * at
  pub count : get_or entries (4 * i + 2) 0 ≡ s.count
  pub checksum : get_or entries (4 * i + 3) 0 ≡ checksum_of part

-- section i begins after the rooms of those before it
abbrev pub part_of : List Section → List ℕ → ℕ → Section → List ℕ
part_of ss words i s = take (words_of s) (drop (sum_by room_of (take i ss)) words)

pub entry_item : (at : ℕ) (ss : List Section) (words : List ℕ) (i : ℕ) (d : Section) → i < length ss
    → HasEntry (entries_of at ss words) i (at + sum_by room_of (take i ss)) (get_or ss i d) (part_of ss words i (get_or ss i d))
unfolding entries_of
entry_item at [] words i d less = absurd (omega (arith, less))
entry_item at (s ∷ ss) words zero d less = record { role = refl; at_is = omega arith; count = refl; checksum = refl }
entry_item at (s ∷ ss) words (suc i) d less =
    let later = entry_item (at + room_of s) ss (drop (room_of s) words) i d (omega (arith, less)) in
    let k = sum_by room_of (take i ss) in
    let t = get_or ss i d in
    let all = entries_of at (s ∷ ss) words in
    let sum : sum_by room_of (take (suc i) (s ∷ ss)) ≡ room_of s + k = sum_by-cons room_of s (take i ss) in
    let p0 : 4 * suc i ≡ suc (suc (suc (suc (4 * i)))) = omega arith in
    let p1 : 4 * suc i + 1 ≡ suc (suc (suc (suc (4 * i + 1)))) = omega arith in
    let p2 : 4 * suc i + 2 ≡ suc (suc (suc (suc (4 * i + 2)))) = omega arith in
    let p3 : 4 * suc i + 3 ≡ suc (suc (suc (suc (4 * i + 3)))) = omega arith in
    let far : at + room_of s + k ≡ at + sum_by room_of (take (suc i) (s ∷ ss)) = omega (arith, sum) in
    record {
      role = ap (λ p. get_or all p 0) p0 ∙ later.role;
      at_is = ap (λ p. get_or all p 0) p1 ∙ later.at_is ∙ ap (λ n. 8 * n) far;
      count = ap (λ p. get_or all p 0) p2 ∙ later.count;
      checksum =
          ap (λ p. get_or all p 0) p3
          ∙ later.checksum
          ∙ ap (λ l. checksum_of (take (words_of t) l)) (drop-drop k (room_of s) words ∙ ap (λ p. drop p words) (sym sum));
    }

-- a section that begins at item `at` of the body has the words that stood there, and zeros after them
pub record HasPart (body words : List ℕ) (s : Section) (at : ℕ) : Type 0 where
  pub part : take (words_of s) (drop at body) ≡ take (words_of s) (drop at words)
  pub zeros : take (room_of s - words_of s) (drop (at + words_of s) body) ≡ replicate (room_of s - words_of s) 0

-- words, zeros and what follows
first_part : (words back : List ℕ) (w r : ℕ) → w ≤ length words → take w ((take w words ++ replicate r 0) ++ back) ≡ take w words
first_part words back w r long =
    ap (take w) (append_assoc (take w words) (replicate r 0) back)
    ∙ take_at (take w words) (replicate r 0 ++ back) w (length-take-le w words long)

first_zeros : (words back : List ℕ) (w r : ℕ) → w ≤ length words → take r (drop w ((take w words ++ replicate r 0) ++ back)) ≡ replicate r 0
first_zeros words back w r long =
    ap (λ l. take r (drop w l)) (append_assoc (take w words) (replicate r 0) back)
    ∙ ap (take r) (drop_at (take w words) (replicate r 0 ++ back) w (length-take-le w words long))
    ∙ take_at (replicate r 0) back r (length-replicate {A = ℕ} r 0)

pub body_part : (ss : List Section) (words : List ℕ) (i : ℕ) (d : Section) → length words ≡ sum_by room_of ss → i < length ss
    → HasPart (body_of ss words) words (get_or ss i d) (sum_by room_of (take i ss))
unfolding body_of
body_part [] words i d long less = absurd (omega (arith, less))
body_part (s ∷ ss) words zero d long less =
    let all : sum_by room_of (s ∷ ss) ≡ room_of s + sum_by room_of ss = sum_by-cons room_of s ss in
    let fits : words_of s ≤ length words = omega (arith, long, all, words_fit s) in
    let r = room_of s - words_of s in
    let back = body_of ss (drop (room_of s) words) in
    let none : 0 + words_of s ≡ words_of s = omega arith in
    record {
      part = first_part words back (words_of s) r fits;
      zeros = ap (λ p. take r (drop p (filled s words ++ back))) none ∙ first_zeros words back (words_of s) r fits;
    }
body_part (s ∷ ss) words (suc i) d long less =
    let all : sum_by room_of (s ∷ ss) ≡ room_of s + sum_by room_of ss = sum_by-cons room_of s ss in
    let rest = drop (room_of s) words in
    let rest_len : length rest ≡ sum_by room_of ss = omega (arith, length-drop (room_of s) words, long, all) in
    let later = body_part ss rest i d rest_len (omega (arith, less)) in
    let k = sum_by room_of (take i ss) in
    let t = get_or ss i d in
    let whole = filled s words ++ body_of ss rest in
    let sum : sum_by room_of (take (suc i) (s ∷ ss)) ≡ room_of s + k = sum_by-cons room_of s (take i ss) in
    let far : sum_by room_of (take (suc i) (s ∷ ss)) + words_of t ≡ room_of s + (k + words_of t) = omega (arith, sum) in
    let first : drop (room_of s) whole ≡ body_of ss rest =
    drop_at (filled s words) (body_of ss rest) (room_of s) (filled_len s words (omega (arith, long, all))) in
    let skip = λ (n : ℕ). sym (drop-drop n (room_of s) whole) ∙ ap (drop n) first in
    record {
      part =
          ap (λ p. take (words_of t) (drop p whole)) sum
          ∙ ap (take (words_of t)) (skip k)
          ∙ later.part
          ∙ ap (take (words_of t)) (drop-drop k (room_of s) words ∙ ap (λ p. drop p words) (sym sum));
      zeros =
          ap (λ p. take (room_of t - words_of t) (drop p whole)) far
          ∙ ap (take (room_of t - words_of t)) (skip (k + words_of t))
          ∙ later.zeros;
    }

-- ---- what one step writes

pub entries_none : (at : ℕ) (ss : List Section) (body entries : List ℕ) → length ss ≡ 0 → length entries ≡ 4 * length ss
    → entries ≡ entries_of at ss body
unfolding entries_of
entries_none at [] body [] none long = refl
entries_none at [] body (x ∷ xs) none long = absurd (omega (arith, long))
entries_none at (s ∷ ss) body entries none long = absurd (omega (arith, none))

pub body_none : (ss : List Section) (body : List ℕ) → length ss ≡ 0 → length body ≡ sum_by room_of ss → body ≡ body_of ss body
unfolding body_of
body_none [] [] none long = refl
body_none [] (x ∷ xs) none long = absurd (omega (arith, long))
body_none (s ∷ ss) body none long = absurd (omega (arith, none))

module _ (ss later : List Section) (s : Section) (body front rest : List ℕ) (room : ℕ) (first : ss ≡ s ∷ later) (all : room ≡ room_of s)
    (front_is : front ≡ take room body) (rest_is : rest ≡ drop room body) where
  behind : rest ≡ drop (room_of s) body
  behind = rest_is ∙ ap (λ k. drop k body) all

  part_is : (m : ℕ) → m ≡ words_of s → take m front ≡ take (words_of s) body
  part_is m len =
      ap (λ k. take k front) len
      ∙ ap (take (words_of s)) front_is
      ∙ take-take (words_of s) room body (omega (arith, all, words_fit s))

  pub entries_more : (at next m : ℕ) (entry others : List ℕ) → m ≡ words_of s → next ≡ at + room_of s
      → entry ≡ directory_entry s at (take m front) → others ≡ entries_of next later rest → entry ++ others ≡ entries_of at ss body
  unfolding entries_of
  entries_more at next m entry others len far entry_is others_is =
      ap (λ x. x ++ others) (entry_is ∙ ap (directory_entry s at) (part_is m len))
      ∙ ap (λ x. directory_entry s at (take (words_of s) body) ++ x)
      (others_is ∙ ap (λ n. entries_of n later rest) far ∙ ap (entries_of (at + room_of s) later) behind)
      ∙ ap (λ l. entries_of at l body) (sym first)

  pub body_more : (m : ℕ) (words others : List ℕ) → m ≡ words_of s → length front ≡ room → words ≡ take m front ++ replicate (length front - m) 0
      → others ≡ body_of later rest → words ++ others ≡ body_of ss body
  unfolding body_of
  body_more m words others len front_len words_is others_is =
      let gap : length front - m ≡ room_of s - words_of s = omega (arith, front_len, all, len) in
      ap (λ x. x ++ others)
      (words_is
      ∙ ap (λ x. x ++ replicate (length front - m) 0) (part_is m len)
      ∙ ap (λ k. take (words_of s) body ++ replicate k 0) gap)
      ∙ ap (λ x. filled s body ++ x) (others_is ∙ ap (body_of later) behind)
      ∙ ap (λ l. body_of l body) (sym first)

pub block_more : (h : Head) (ss : List Section) (old header directory body under : List ℕ) (len sum : ℕ)
    → under ≡ drop (head_of (length ss)) old → len ≡ end_of ss → sum ≡ checksum_of directory → directory ≡ directory_of ss under
    → body ≡ body_of ss under → header ≡ header_of h (length ss) len sum
    → (header ++ directory) ++ body ≡ block_of h ss (drop (head_of (length ss)) old)
block_more h ss old header directory body under len sum under_is len_is sum_is directory_is body_is header_is =
    let words = drop (head_of (length ss)) old in
    let own : directory ≡ directory_of ss words = directory_is ∙ ap (directory_of ss) under_is in
    let top = header_of h (length ss) (end_of ss) (checksum_of (directory_of ss words)) in
    append_assoc header directory body
    ∙ ap (λ x. x ++ (directory ++ body))
    (header_is
    ∙ ap (λ n. header_of h (length ss) n sum) len_is
    ∙ ap (header_of h (length ss) (end_of ss)) (sum_is ∙ ap checksum_of own))
    ∙ ap (λ x. top ++ (x ++ body)) own
    ∙ ap (λ x. top ++ (directory_of ss words ++ x)) (body_is ∙ ap (body_of ss) under_is)
