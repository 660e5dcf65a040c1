-- Sections that stand one after another are those of the block.
use Rattle.std.proofs.Common.{◌≡◌, ℕ, ◌+◌, ◌^◌, ◌<◌, ◌⊎◌, inr, List, ◌++◌, length, slice_index, append_assoc, length-append, sym, ap, ◌∙◌, subst, arith}
use Rattle.std.proofs.lemmas.Grind.{common_steps}
use Rattle.std.specs.List.{slice_range}
use Rattle.bitm_block.proofs.PartsLemmas.{count_is, cut, entry_is, is_of_kind, section_is}
use Rattle.bitm_block.specs.Header.{section_in}
use Rattle.bitm_block.specs.Layout.{begin_of}
use Rattle.bitm_block.specs.Written.{IsSealed}
use Rattle.bitm_block.specs.declared.head.Head.{Head}
use Rattle.bitm_block.specs.declared.layout.Section.{Section}
use Rattle.bitm_selection.specs.Hints.{hints_len}
use Rattle.block_tables.proofs.HintLemmas.{hints_are}
use Rattle.block_tables.specs.Hints.{hints_in}
use Rattle.louds.specs.Counted.{degrees_in}
use Rattle.louds.specs.Held.{tree_words}
use Rattle.tree_block.specs.Block.{hints_of_nodes, lower_of_nodes, parts_of, tree_head, tree_hints_at, tree_in, tree_lower_at, tree_sections, tree_upper_at, upper_of_nodes, HoldsIn, IsBlockOf, IsTreeOf, StandsIn, TreeParts}

-- the lengths of a header, words, tables, hints and what stands between them
pub record HaveLengths (n : ℕ) (head words gap upper gap2 lower gap3 hints tail : List ℕ) : Type 0 where
  pub head_len : length head ≡ 32
  pub words_len : length words ≡ tree_words n
  pub gap_len : length gap + 32 + tree_words n ≡ tree_upper_at n
  pub upper_len : length upper ≡ upper_of_nodes n
  pub gap2_len : length gap2 + tree_upper_at n + upper_of_nodes n ≡ tree_lower_at n
  pub lower_len : length lower ≡ lower_of_nodes n
  pub gap3_len : length gap3 + tree_lower_at n + lower_of_nodes n ≡ tree_hints_at n
  pub hints_len : length hints ≡ hints_of_nodes n

-- words, tables and hints that are written one after another stand where the sections of a tree are
pub stands : (d head words gap upper gap2 lower gap3 hints tail : List ℕ) → HaveLengths (length d) head words gap upper gap2 lower gap3 hints tail
    → IsTreeOf d words upper lower hints
    → StandsIn d (head ++ ((words ++ gap) ++ ((upper ++ gap2) ++ ((lower ++ gap3) ++ (hints ++ tail)))))
stands d head words gap upper gap2 lower gap3 hints tail lens tree =
    let n = length d in
    let rest3 = hints ++ tail in
    let rest2 = (lower ++ gap3) ++ rest3 in
    let rest = (upper ++ gap2) ++ rest2 in
    let block = head ++ ((words ++ gap) ++ rest) in
    let words_are : slice_range block 32 (32 + tree_words n) ≡ words =
    ap (λ x. slice_range (head ++ x) 32 (32 + tree_words n)) (append_assoc words gap rest)
    ∙ cut head words (gap ++ rest) 32 (32 + tree_words n) (sym lens.head_len) (omega (arith, lens.words_len)) in
    let front = head ++ (words ++ gap) in
    let front_len : length front ≡ tree_upper_at n =
    omega (arith, length-append head (words ++ gap), length-append words gap, lens.head_len, lens.words_len, lens.gap_len) in
    let front_is : block ≡ front ++ rest = sym (append_assoc head (words ++ gap) rest) in
    let upper_are : slice_range block (tree_upper_at n) (tree_upper_at n + upper_of_nodes n) ≡ upper =
    ap (λ b. slice_range b (tree_upper_at n) (tree_upper_at n + upper_of_nodes n)) (front_is ∙ ap (λ x. front ++ x) (append_assoc upper gap2 rest2))
    ∙ cut front upper (gap2 ++ rest2) (tree_upper_at n) (tree_upper_at n + upper_of_nodes n) (sym front_len) (omega (arith, lens.upper_len)) in
    let long = front ++ (upper ++ gap2) in
    let long_len : length long ≡ tree_lower_at n =
    omega (arith, length-append front (upper ++ gap2), length-append upper gap2, front_len, lens.upper_len, lens.gap2_len) in
    let long_is : block ≡ long ++ rest2 = front_is ∙ sym (append_assoc front (upper ++ gap2) rest2) in
    let lower_are : slice_range block (tree_lower_at n) (tree_lower_at n + lower_of_nodes n) ≡ lower =
    ap (λ b. slice_range b (tree_lower_at n) (tree_lower_at n + lower_of_nodes n)) (long_is ∙ ap (λ x. long ++ x) (append_assoc lower gap3 rest3))
    ∙ cut long lower (gap3 ++ rest3) (tree_lower_at n) (tree_lower_at n + lower_of_nodes n) (sym long_len) (omega (arith, lens.lower_len)) in
    let longer = long ++ (lower ++ gap3) in
    let longer_len : length longer ≡ tree_hints_at n =
    omega (arith, length-append long (lower ++ gap3), length-append lower gap3, long_len, lens.lower_len, lens.gap3_len) in
    let own : slice_range block (tree_hints_at n) (tree_hints_at n + hints_of_nodes n) ≡ hints =
    ap (λ b. slice_range b (tree_hints_at n) (tree_hints_at n + hints_of_nodes n)) (long_is ∙ sym (append_assoc long (lower ++ gap3) rest3))
    ∙ cut longer hints tail (tree_hints_at n) (tree_hints_at n + hints_of_nodes n) (sym longer_len) (omega (arith, lens.hints_len)) in
    let own_upper = slice_range block (tree_upper_at n) (tree_upper_at n + upper_of_nodes n) in
    let own_lower = slice_range block (tree_lower_at n) (tree_lower_at n + lower_of_nodes n) in
    let own_hints = slice_range block (tree_hints_at n) (tree_hints_at n + hints_of_nodes n) in
    subst (λ (w : List ℕ). IsTreeOf d w own_upper own_lower own_hints) (sym words_are)
    (subst (λ (u : List ℕ). IsTreeOf d words u own_lower own_hints) (sym upper_are)
    (subst (λ (l : List ℕ). IsTreeOf d words upper l own_hints) (sym lower_are) (subst (IsTreeOf d words upper lower) (sym own) tree)))

-- hints are few
pub hints_few : (n : ℕ) → hints_of_nodes n < 2 ^ 26
hints_few n = grind (arith, common_steps)

-- the numbers of the header of a sealed tree
module _ (n : ℕ) (old new : List ℕ) (sealed : IsSealed (tree_head n) (tree_sections n) old new) where
  nodes_are : slice_index new 3 ≡ n
  nodes_are = ap (λ (h : Head). h.len) sealed.head_is

  kind_is : slice_index new 1 ≡ 7
  kind_is = ap (λ (h : Head). h.kind) sealed.head_is

-- a sealed block whose sections hold a tree is its block
pub block_is : (d old new : List ℕ) → length d < 2 ^ 60 → IsSealed (tree_head (length d)) (tree_sections (length d)) old new → StandsIn d old
    → IsBlockOf d new
block_is d old new short sealed tree =
    let n = length d in
    let words = slice_range old 32 (32 + tree_words n) in
    let upper = slice_range old (tree_upper_at n) (tree_upper_at n + upper_of_nodes n) in
    let lower = slice_range old (tree_lower_at n) (tree_lower_at n + lower_of_nodes n) in
    let hints = slice_range old (tree_hints_at n) (tree_hints_at n + hints_of_nodes n) in
    let w : section_in new 0 ≡ words = section_is (tree_head n) (tree_sections n) old new sealed 0 (omega arith) in
    let second : begin_of (tree_sections n) 1 ≡ tree_upper_at n = omega arith in
    let third : begin_of (tree_sections n) 2 ≡ tree_lower_at n = omega arith in
    let fourth : begin_of (tree_sections n) 3 ≡ tree_hints_at n = omega arith in
    let u : section_in new 1 ≡ upper =
    section_is (tree_head n) (tree_sections n) old new sealed 1 (omega arith) ∙ ap (λ p. slice_range old p (p + upper_of_nodes n)) second in
    let l : section_in new 2 ≡ lower =
    section_is (tree_head n) (tree_sections n) old new sealed 2 (omega arith) ∙ ap (λ p. slice_range old p (p + lower_of_nodes n)) third in
    let h : hints_in new 3 n (length words) ≡ hints =
    hints_are new 3 n (length words) (omega (arith, count_is (tree_head n) (tree_sections n) old new sealed))
    (ap (λ (s : Section). s.role) (entry_is (tree_head n) (tree_sections n) old new sealed 3 (omega arith)))
    (ap (λ (s : Section). s.count) (entry_is (tree_head n) (tree_sections n) old new sealed 3 (omega arith)) ∙ ap (hints_len n) (sym tree.words_len))
    ∙ section_is (tree_head n) (tree_sections n) old new sealed 3 (omega arith)
    ∙ ap (λ p. slice_range old p (p + hints_of_nodes n)) fourth in
    let parts : tree_in new ≡ parts_of n words upper lower hints =
    ap (λ m. parts_of m (section_in new 0) (section_in new 1) (section_in new 2) (hints_in new 3 m (length (section_in new 0)))) (nodes_are n old new sealed)
    ∙ ap (λ x. parts_of n x (section_in new 1) (section_in new 2) (hints_in new 3 n (length x))) w
    ∙ ap (λ x. parts_of n words x (section_in new 2) (hints_in new 3 n (length words))) u
    ∙ ap (λ x. parts_of n words upper x (hints_in new 3 n (length words))) l
    ∙ ap (parts_of n words upper lower) h in
    record {
      holds = record {
        tree_block = record {
          is_block = sealed.is_block;
          sections = is_of_kind (tree_head n) (tree_sections n) new sealed.head_is sealed.sections_are 3 (omega arith);
          lengths = record {
            short = omega (arith, short, nodes_are n old new sealed);
            words_len = ap length w ∙ tree.words_len ∙ ap tree_words (sym (nodes_are n old new sealed));
            sized = record {
              short = omega (arith, short, ap length w, tree.words_len);
              upper_len = omega (arith, ap length u, ap length w, tree.upper_len, tree.words_len);
              lower_len = omega (arith, ap length l, ap length w, tree.lower_len, tree.words_len);
            };
            hinted =
                subst (λ (t : TreeParts). (length t.hints ≡ 0) ⊎ (length t.hints ≡ hints_len t.len (length t.lists.words))) (sym parts)
                (inr (tree.hints_len ∙ ap (hints_len n) (sym tree.words_len)));
          };
        };
        verified = sealed.verified;
        tree = subst HoldsIn (sym parts) (record { louds = tree.louds; lead = tree.lead });
      };
      degrees_are = ap (λ (t : TreeParts). degrees_in t.len t.lists) parts ∙ tree.degrees_are;
    }
