-- Where sections stand in a block that has one more.
use Rattle.std.proofs.Common.{◌≡◌, ℕ, zero, suc, ◌+◌, ◌-◌, ◌^◌, ◌<◌, ◌≤◌, List, [], ◌∷◌, ◌++◌, length, take, drop, get_or, sum_by, All, append_assoc, length-append, length-drop, refl, sym, ap, subst, ◌∙◌, arith}
use Rattle.std.proofs.Math.Seq.{drop-append-add, take-append_seam}
use Rattle.std.proofs.lemmas.List.{drop-append-le, drop-drop, get_or_append_left, get_or_push, take-append-le, take_all}
use Rattle.std.proofs.lemmas.List.Elements.{All-append}
use Rattle.std.proofs.lemmas.List.Sums.{sum_by_push}
use Rattle.std.specs.List.{slice_range}
use Rattle.bitm_block.proofs.HeaderLemmas.{begin_next, inside, section_at, sections_len}
use Rattle.bitm_block.proofs.LayoutLemmas.{words_fit}
use Rattle.bitm_block.proofs.PartsLemmas.{cut, section_is}
use Rattle.bitm_block.specs.Header.{count_in, head_in, section_entry, section_in, sections_in, IsBlock, IsOfKind}
use Rattle.bitm_block.specs.Layout.{begin_of, end_of, head_of, no_section, part_in, room_of, words_of, AreShort}
use Rattle.bitm_block.specs.Written.{IsSealed}
use Rattle.bitm_block.specs.declared.head.Head.{Head}
use Rattle.bitm_block.specs.declared.layout.Section.{Section}
use Rattle.block_sections.specs.Extended.{body_in, extended_sections, IsExtended, StandsExtended}

-- a part of what stands after a front
moved : (front body tail : List ℕ) (at p w : ℕ) → at ≡ length front + p → p + w ≤ length body
    → slice_range (front ++ (body ++ tail)) at (at + w) ≡ slice_range body p (p + w)
moved front body tail at p w from within =
    let whole : at + w - at ≡ w = omega arith in
    let same : w ≡ p + w - p = omega arith in
    ap (λ k. take k (drop at (front ++ (body ++ tail)))) whole
    ∙ ap (λ k. take w (drop k (front ++ (body ++ tail)))) from
    ∙ ap (take w) (drop-append-add front (body ++ tail) p)
    ∙ ap (take w) (drop-append-le p body tail (omega (arith, within)))
    ∙ take-append-le w (drop p body) tail (omega (arith, within, length-drop p body))
    ∙ ap (λ k. take k (drop p body)) same

-- a part of what is left after a head
under : (h : ℕ) (b : List ℕ) (p w : ℕ) → slice_range (drop h b) p (p + w) ≡ slice_range b (h + p) (h + p + w)
under h b p w =
    let n : p + w - p ≡ h + p + w - (h + p) = omega arith in
    ap (λ k. take k (drop p (drop h b))) n ∙ ap (take (h + p + w - (h + p))) (drop-drop p h b)

module _ (b : List ℕ) (s : Section) (is : IsBlock b) where
  pub len_with : length (extended_sections b s) ≡ count_in b + 1
  len_with = omega (arith, length-append (sections_in b) (s ∷ []), sections_len b)

  -- the new block is longer by the room of the section, and by that of its entry
  pub end_with : end_of (extended_sections b s) + head_of (count_in b) ≡ head_of (count_in b + 1) + length b + room_of s
  end_with = omega (arith, sum_by_push room_of (sections_in b) s, is.directory.whole, len_with, sections_len b)

  -- what is copied
  pub body_is : (w : List ℕ) (h : ℕ) → w ≡ b → h ≡ head_of (count_in b) → take (length w - h) (drop h w) ≡ body_in b
  body_is w h same at =
      take_all (length w - h) (drop h w) (omega (arith, length-drop h w)) ∙ ap (drop h) same ∙ ap (λ k. drop k b) at

  pub body_len : length (body_in b) + head_of (count_in b) ≡ length b
  body_len = omega (arith, length-drop (head_of (count_in b)) b, is.directory.head)

  counts : All (λ (t : Section). t.count < 2 ^ 58) (sections_in b)
  counts i d less =
      let within : i < count_in b = omega (arith, less, sections_len b) in
      subst (λ (t : Section). t.count < 2 ^ 58) (sym (section_at b i d within)) (is.directory.entries i within).count

  one : s.count < 2 ^ 58 → All (λ (t : Section). t.count < 2 ^ 58) (s ∷ [])
  one small zero d less = small
  one small (suc i) d less = absurd (omega (arith, less))

  pub short_with : count_in b < 16 → s.count < 2 ^ 58 → end_of (extended_sections b s) < 2 ^ 60 → AreShort (extended_sections b s)
  short_with few small total = record {
    few = omega (arith, len_with, few);
    counts = All-append (λ (t : Section). t.count < 2 ^ 58) (sections_in b) (s ∷ []) counts (one small);
    total = total;
  }

  pub few_in : AreShort (extended_sections b s) → count_in b < 16
  few_in short = omega (arith, len_with, short.few)

  pub small_in : AreShort (extended_sections b s) → s.count < 2 ^ 58
  small_in short =
      subst (λ (t : Section). t.count < 2 ^ 58) (get_or_push (sections_in b) s s (length (sections_in b)) refl)
      (short.counts (length (sections_in b)) s (omega (arith, len_with, sections_len b)))

  module _ (words to : List ℕ) (stands : StandsExtended b words to) (long : length words ≡ words_of s) where
    kept_part : (i : ℕ) → i < count_in b → part_in (extended_sections b s) to i ≡ section_in b i
    kept_part i less =
        let ss = sections_in b in
        let at = begin_of (extended_sections b s) i in
        let p = sum_by room_of (take i ss) in
        let h = head_of (count_in b) in
        let w = words_of (section_entry b i) in
        let within : i < length ss = omega (arith, less, sections_len b) in
        let entry : get_or (extended_sections b s) i no_section ≡ section_entry b i =
        get_or_append_left ss (s ∷ []) no_section i within ∙ section_at b i no_section less in
        let before : sum_by room_of (take i (extended_sections b s)) ≡ p = ap (sum_by room_of) (take-append-le i ss (s ∷ []) (omega (arith, within))) in
        let from : at ≡ length stands.front + p = omega (arith, stands.head, before, len_with) in
        let fits : p + w ≤ length (body_in b) =
        omega (arith, begin_next b i less, inside b is.directory (i + 1), words_fit (section_entry b i), length-drop h b, sections_len b) in
        ap (λ (t : Section). slice_range to at (at + words_of t)) entry
        ∙ ap (λ l. slice_range l at (at + w)) stands.whole
        ∙ moved stands.front (body_in b) (words ++ stands.gap) at p w from fits
        ∙ under h b p w
        ∙ ap (λ n. slice_range b (head_of n + p) (head_of n + p + w)) (sym (sections_len b))

    added_part : part_in (extended_sections b s) to (count_in b) ≡ words
    added_part =
        let ss = sections_in b in
        let n = count_in b in
        let at = begin_of (extended_sections b s) n in
        let front = stands.front ++ body_in b in
        let entry : get_or (extended_sections b s) n no_section ≡ s = get_or_push ss s no_section n (sections_len b) in
        let before : take n (extended_sections b s) ≡ ss =
        ap (λ k. take k (extended_sections b s)) (sym (sections_len b)) ∙ take-append_seam ss (s ∷ []) in
        let rooms : sum_by room_of (take n (extended_sections b s)) ≡ sum_by room_of ss = ap (sum_by room_of) before in
        let from : at ≡ length front =
        omega (arith, stands.head, rooms, len_with, sections_len b, is.directory.whole, length-append stands.front (body_in b), length-drop (head_of n) b) in
        ap (λ (t : Section). slice_range to at (at + words_of t)) entry
        ∙ ap (λ l. slice_range l at (at + words_of s)) (stands.whole ∙ sym (append_assoc stands.front (body_in b) (words ++ stands.gap)))
        ∙ cut front words stands.gap at (at + words_of s) from (omega (arith, long))

    pub extended : (new : List ℕ) → IsSealed (head_in b) (extended_sections b s) to new → IsExtended b s words new
    extended new sealed =
        let h = head_in b in
        let ss = extended_sections b s in
        record {
          is_block = sealed.is_block;
          verified = sealed.verified;
          version = sealed.version;
          head_is = sealed.head_is;
          sections_are = sealed.sections_are;
          kept = λ i less. section_is h ss to new sealed i (omega (arith, len_with, less)) ∙ kept_part i less;
          added_is = section_is h ss to new sealed (count_in b) (omega (arith, len_with)) ∙ added_part;
        }

-- the sections of an extended block, as its directory has them
module _ (b : List ℕ) (s : Section) (words new : List ℕ) (is : IsExtended b s words new) where
  pub count_is : count_in new ≡ count_in b + 1
  count_is = omega (arith, sections_len new, ap length is.sections_are, length-append (sections_in b) (s ∷ []), sections_len b)

  pub entry_is : (i : ℕ) → i < count_in b → section_entry new i ≡ section_entry b i
  entry_is i less =
      sym (section_at new i no_section (omega (arith, less, count_is)))
      ∙ ap (λ (l : List Section). get_or l i no_section) is.sections_are
      ∙ get_or_append_left (sections_in b) (s ∷ []) no_section i (omega (arith, less, sections_len b))
      ∙ section_at b i no_section less

  -- a block keeps its kind, and the roles of its first sections
  pub kind_kept : (kind : ℕ) (roles : List ℕ) → IsOfKind kind roles b → IsOfKind kind roles new
  kind_kept kind roles old = record {
    kind_is = ap (λ (h : Head). h.kind) is.head_is ∙ old.kind_is;
    many = omega (arith, old.many, count_is);
    roles_are = λ i less. ap (λ (e : Section). e.role) (entry_is i (omega (arith, less, old.many))) ∙ old.roles_are i less;
  }
