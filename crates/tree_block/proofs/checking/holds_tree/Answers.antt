-- The words before the last and the part of the last before the last zero are those of a tree.
use Rattle.std.proofs.Common.{rules, ◌≡◌, ◌+◌, ◌-◌, ◌*◌, ◌/◌, ◌%◌, ◌^◌, ◌<◌, ◌≤◌, ℕ, List, length, count_ones, get_or, ap, ◌∙◌, subst, sym, arith}
use Rattle.std.specs.Int.{bit_at}
use Rattle.bit_lists.specs.Bits.{bits_of, item}
use Rattle.bit_lists.specs.Count.{ones_before}
use Rattle.bit_lists.proofs.BitLaws.{bits_are_counted}
use Rattle.bit_lists.proofs.lemmas.CountLemmas.{ones_before-bits_of_in_word}
use Rattle.louds.specs.Held.{degrees_of, tree_words, IsHeld}
use Rattle.tree_block.specs.Check.{KeepsLead, OnesLead}
use Rattle.tree_block.proofs.CheckLemmas.{digit_zero, held_of_tree, keeps_where_leads, leads_fewer, leads_on, ones_few, ones_left, tree_of_held, AreOfTree}
use Rattle.tree_block.proofs.checking.holds_tree.Goals as goal
use Rattle.tree_block.proofs.checking.holds_tree.Goals.{then-nodes-eq0-via-then-nodes-eq0, then-nodes-eq0-via-else-nodes-eq0+then-words-ne0}

-- where the last zero stands: in digit r of word q
module _ (words : List ℕ) (n : ℕ) (tight : length words ≡ tree_words n) where
  abbrev q : ℕ
  q = length words - 1

  abbrev r : ℕ
  r = 2 * n % 64

  inside : q < length words
  inside = omega (arith, tight)

  position : 64 * q + r ≡ 2 * n
  position = omega (arith, tight)

  counted : length (bits_of words) ≡ 64 * tree_words n
  counted = bits_are_counted words ∙ ap (λ k. 64 * k) tight

  tree : IsHeld (degrees_of (bits_of words) n) n (bits_of words) → AreOfTree (bits_of words) n
  tree h = tree_of_held (degrees_of (bits_of words) n) n (bits_of words) counted h

  front_leads : IsHeld (degrees_of (bits_of words) n) n (bits_of words) → OnesLead (bits_of words) (64 * q)
  front_leads h = leads_fewer (bits_of words) (64 * q) (2 * n) (omega (arith, position)) (tree h).leads

  module _ (ones : ℕ) (leads : OnesLead (bits_of words) (64 * q)) (are : ones ≡ ones_before (bits_of words) (64 * q)) where
    enough : 64 * q ≤ 2 * ones
    enough = omega (arith, are, ones_left words q (omega (arith, inside)) leads)

    few : ones ≤ 64 * q
    few = omega (arith, are, ones_few words (64 * q) (omega (arith, inside)))

    same : 2 * ones - 64 * q + 64 * q ≡ 2 * ones_before (bits_of words) (64 * q)
    same = omega (arith, are, enough)

    keeps : IsHeld (degrees_of (bits_of words) n) n (bits_of words) → KeepsLead (get_or words q 0) r (2 * ones - 64 * q)
    keeps h = keeps_where_leads words q r (2 * ones - 64 * q) inside (omega arith) same (subst (OnesLead (bits_of words)) (sym position) (tree h).leads)

    whole : (more : ℕ) → more ≡ count_ones (get_or words q 0 % 2 ^ r) → ones + more ≡ ones_before (bits_of words) (2 * n)
    whole more e = omega (arith, are, e, ones_before-bits_of_in_word words q inside r (omega arith), ap (ones_before (bits_of words)) position)

    few_in_all : (more : ℕ) → more ≡ count_ones (get_or words q 0 % 2 ^ r) → ones + more ≤ 2 * n
    few_in_all more e = omega (arith, whole more e, ones_few words (2 * n) (omega (arith, inside, position)))

    held : n < 2 ^ 60 → 0 < n → get_or words 0 0 / 2 % 2 ≡ 0 → KeepsLead (get_or words q 0) r (2 * ones - 64 * q) → ones_before (bits_of words) (2 * n) ≡ n
        → bit_at (get_or words q 0) r ≡ 0 → IsHeld (degrees_of (bits_of words) n) n (bits_of words)
    held short some second kept count last = held_of_tree (bits_of words) n short counted (record {
      some = some;
      second = (digit_zero words 0 1 (omega (arith, inside)) (omega arith)).1 second;
      leads = subst (OnesLead (bits_of words)) position (leads_on words q r (2 * ones - 64 * q) inside (omega arith) same leads kept);
      last = ap (item (bits_of words)) (sym position) ∙ (digit_zero words q r inside (omega arith)).1 last;
      count = count;
    })

pub returns-then-nodes-eq0 : goal.returns-then-nodes-eq0
returns-then-nodes-eq0 c =
    let words = c.args.words.now in
    let n = c.args.nodes in
    elim c.then-nodes-eq0.branch [
      | then-nodes-eq0-via-then-nodes-eq0 w ↦ (search rules, λ h. absurd (omega (arith, (tree words n c.requires.tight h).some, w.if-nodes-eq0.true)))
      | then-nodes-eq0-via-else-nodes-eq0+then-words-ne0 w ↦ (search rules, λ h. absurd (w.if-words-ne0.true ((digit_zero words 0 1 (omega (arith, inside words n c.requires.tight)) (omega arith)).0 (tree words n c.requires.tight h).second)))
    ]

pub returns-in_default : goal.returns-in_default
returns-in_default c = (search rules, λ h. absurd (c.in_default.ensures (front_leads c.args.words.now c.args.nodes c.requires.tight h)))

pub overflow_mul-ones : goal.overflow_mul-ones
overflow_mul-ones c = record {
  fits = omega (arith, few c.args.words.now c.args.nodes c.requires.tight c.in-Some.ones c.in-Some.ensures.0 c.in-Some.ensures.1, c.requires.tight, c.requires.few);
}

pub overflow_sub-ones : goal.overflow_sub-ones
overflow_sub-ones c = enough c.args.words.now c.args.nodes c.requires.tight c.in-Some.ones c.in-Some.ensures.0 c.in-Some.ensures.1

pub ones_of_part-requires-clause-lead : goal.ones_of_part-requires-clause-lead
ones_of_part-requires-clause-lead c =
    omega (arith, few c.args.words.now c.args.nodes c.requires.tight c.in-Some.ones c.in-Some.ensures.0 c.in-Some.ensures.1, c.requires.tight, c.requires.few)

pub overflow_add-ones : goal.overflow_add-ones
overflow_add-ones c = record {
  fits = omega (arith, few_in_all c.args.words.now c.args.nodes c.requires.tight c.in-Some.ones c.in-Some.ensures.0 c.in-Some.ensures.1 c.in-Some-ones_of_part.more c.in-Some-ones_of_part.ensures.1, c.requires.few);
}

pub returns-then-ones-more : goal.returns-then-ones-more
returns-then-ones-more c =
    let words = c.args.words.now in
    let n = c.args.nodes in
    let t = c.requires.tight in
    let all = whole words n t c.in-Some.ones c.in-Some.ensures.0 c.in-Some.ensures.1 c.in-Some-ones_of_part.more c.in-Some-ones_of_part.ensures.1 in (
      λ last.
          held words n t c.in-Some.ones c.in-Some.ensures.0 c.in-Some.ensures.1 c.requires.few (omega (arith, c.if-nodes-eq0.false)) (omega (arith, c.if-words-ne0.false))
          c.in-Some-ones_of_part.ensures.0 (sym all ∙ c.if-ones-more.true) (search rules),
      λ h. let none = (digit_zero words (q words n t) (r words n t) (inside words n t) (omega arith)).0 (ap (item (bits_of words)) (position words n t) ∙ (tree words n t h).last) in
          search rules,
    )

pub returns-else-ones-more : goal.returns-else-ones-more
returns-else-ones-more c =
    let words = c.args.words.now in
    let n = c.args.nodes in
    let t = c.requires.tight in
    let all = whole words n t c.in-Some.ones c.in-Some.ensures.0 c.in-Some.ensures.1 c.in-Some-ones_of_part.more c.in-Some-ones_of_part.ensures.1 in
    (λ right. search rules, λ h. absurd (c.if-ones-more.false (all ∙ (tree words n t h).count)))

pub returns-in_default-ones_of_part : goal.returns-in_default-ones_of_part
returns-in_default-ones_of_part c = (
  search rules,
  λ h. absurd (c.in_default-ones_of_part.ensures (keeps c.args.words.now c.args.nodes c.requires.tight c.in-Some.ones c.in-Some.ensures.0 c.in-Some.ensures.1 h)),
)
