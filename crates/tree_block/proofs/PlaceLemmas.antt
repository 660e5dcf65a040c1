-- One node more is placed.
use Rattle.std.proofs.Common.{◌≡◌, ℕ, ◌+◌, ◌-◌, ◌<◌, ◌≤◌, inl, inr, true, false, List, length, get_or, set, slice_index, sym, ap, ◌∙◌, subst, ⊎_elim, arith, get_or-set_other, get_or-set_same}
use Rattle.std.proofs.lemmas.Bool.{cases_eq, cases_lt, cases_order, false≢true}
use Rattle.bit_lists.specs.Bits.{bits_of, item}
use Rattle.bit_lists.specs.Number.{with_number}
use Rattle.bit_lists.proofs.Callers.{bit_written, item-with_number_beside}
use Rattle.tree_block.specs.Levels.{next_at, AreEnds, ArePlaced, IsChildPlaced, IsNew}
use Rattle.tree_block.specs.Room.{IsWhole}
use Rattle.tree_block.specs.Words.{nodes_of, shared_of, Words}
use Rattle.tree_block.proofs.LevelLemmas.{above_one, above_order, next_inside}
use Rattle.tree_block.proofs.OrderLemmas.{apart_levels, apart_words, new_inside, on_level, word_inside}
use Rattle.tree_block.proofs.PathLemmas.{AllPlaced}

module _ (ws : Words) (next labels parents : List ℕ) (h : IsWhole ws next labels parents) where
  -- the node that a word adds is one of them, and not the root
  pub node_inside : (k j : ℕ) → j < ws.count → IsNew ws k j → next_at ws (k + 1) j < nodes_of ws
  node_inside k j inside new =
      omega (
        arith,
        new_inside ws k j inside new,
        above_order ws (k + 1 + 1) (nodes_of ws) (omega (arith, new.to, word_inside ws j inside)),
        h.all,
      )

  pub node_some : (k j : ℕ) → 1 ≤ next_at ws (k + 1) j
  node_some k j = omega (arith, above_one ws, above_order ws 1 (k + 1) (omega arith))

  -- and so is the one to which a word leads
  pub last_inside : (k j : ℕ) → j < ws.count → k ≤ length (ws.word j) → (1 ≤ next_at ws k (j + 1)) × (next_at ws k (j + 1) ≤ nodes_of ws)
  last_inside k j inside le = (
    omega (arith, on_level ws k j le),
    omega (
      arith,
      next_inside ws k (j + 1) (omega (arith, inside)),
      above_order ws (k + 1) (nodes_of ws) (omega (arith, le, word_inside ws j inside)),
      h.all,
    ),
  )

module _ (ws : Words) (next labels parents : List ℕ) (h : IsWhole ws next labels parents) (j depth : ℕ) (inside : j < ws.count) where
  -- a write at the node that a word adds to a level leaves those placed before
  pub placed_more : (node x p : ℕ) → ArePlaced ws labels parents j depth → IsNew ws depth j → node ≡ next_at ws (depth + 1) j
      → x ≡ slice_index (ws.word j) depth → p + 1 ≡ next_at ws depth (j + 1)
      → ArePlaced ws (set labels (node - 1) x) (set parents (node - 1) p) j (depth + 1)
  placed_more node x p placed new is letter parent = record {
    earlier = λ k i less old. kept k i old (placed.earlier k i less old) (apart_from k i less old);
    own = λ k less old.
        ⊎_elim
        (λ same. subst (λ (l : ℕ). IsChildPlaced ws (set labels (node - 1) x) (set parents (node - 1) p) l j) (sym same) here)
        (λ other.
        let before : k < depth = omega (arith, less, other) in
        kept k j old (placed.own k before old)
        (λ e. omega (arith, e, apart_levels ws k depth j j before inside old)))
        (cases_eq k depth);
  }
    where
      room : node < nodes_of ws
      room = omega (arith, is, node_inside ws next labels parents h depth j inside new)

      some : 1 ≤ node
      some = omega (arith, is, node_some ws next labels parents h depth j)

      here : IsChildPlaced ws (set labels (node - 1) x) (set parents (node - 1) p) depth j
      here v at =
          let e : v ≡ node - 1 = omega (arith, at, is) in
          let in_labels : node - 1 < length labels = omega (arith, room, some, h.labels_len) in
          let in_parents : node - 1 < length parents = omega (arith, room, some, h.parents_len) in (
            ap (λ i. get_or (set labels (node - 1) x) i 0) e ∙ get_or-set_same labels (node - 1) x 0 in_labels ∙ letter,
            omega (
              arith,
              ap (λ i. get_or (set parents (node - 1) p) i 0) e,
              get_or-set_same parents (node - 1) p 0 in_parents,
              parent,
            ),
          )

      kept : (k i : ℕ) → IsNew ws k i → IsChildPlaced ws labels parents k i → (next_at ws (k + 1) i ≡ next_at ws (depth + 1) j → ⊥)
          → IsChildPlaced ws (set labels (node - 1) x) (set parents (node - 1) p) k i
      kept k i old had apart v at =
          let other : v ≡ node - 1 → ⊥ = λ e. apart (omega (arith, e, at, is, some)) in
          let was = had v at in (
            get_or-set_other labels (node - 1) v x 0 other ∙ was.0,
            omega (arith, get_or-set_other parents (node - 1) v p 0 other, was.1),
          )

      apart_from : (k i : ℕ) → i < j → IsNew ws k i → next_at ws (k + 1) i ≡ next_at ws (depth + 1) j → ⊥
      apart_from k i less old e =
          ⊎_elim
          (λ same. omega (arith, e, apart_words ws k i j less old, ap (λ l. next_at ws (l + 1) j) same))
          (λ other.
          ⊎_elim
          (λ low. omega (arith, e, apart_levels ws k depth i j low (omega (arith, less, inside)) old))
          (λ high. omega (arith, e, apart_levels ws depth k j i high inside new))
          other)
          (cases_order k depth)

module _ (ws : Words) (labels parents : List ℕ) (j : ℕ) where
  -- at first none is placed
  pub none_placed : ArePlaced ws labels parents 0 0
  none_placed = record {
    earlier = λ k i less. absurd (omega (arith, less));
    own = λ k less. absurd (omega (arith, less));
  }

  -- a word has no nodes of its own on the levels that it shares
  pub placed_begin : (depth : ℕ) → depth ≤ shared_of ws j → ArePlaced ws labels parents j 0 → ArePlaced ws labels parents j depth
  placed_begin depth le placed = record {
    earlier = placed.earlier;
    own = λ k less new. absurd (omega (arith, less, new.from, le));
  }

  -- nor past its last letter
  pub placed_end : (depth : ℕ) → length (ws.word j) ≤ depth → ArePlaced ws labels parents j depth → ArePlaced ws labels parents (j + 1) 0
  placed_end depth le placed = record {
    earlier = λ k i less new.
        ⊎_elim
        (λ before. placed.earlier k i before new)
        (λ from.
        let e : i ≡ j = omega (arith, less, from) in
        subst (λ (x : ℕ). IsChildPlaced ws labels parents k x) (sym e)
        (placed.own k (omega (arith, le, new.to, ap (λ x. length (ws.word x)) e))
        (subst (λ (x : ℕ). IsNew ws k x) e new)))
        (cases_lt i j);
    own = λ k less. absurd (omega (arith, less));
  }

-- when all words are placed, all nodes are
pub all_placed : (ws : Words) (next labels parents : List ℕ) (j : ℕ) → IsWhole ws next labels parents → j ≡ ws.count → ArePlaced ws labels parents j 0
    → AllPlaced ws labels parents (nodes_of ws)
all_placed ws next labels parents j h all placed = record {
  each = λ k i less new. placed.earlier k i (omega (arith, less, all)) new;
  labels_len = omega (arith, h.labels_len, h.all);
  parents_len = omega (arith, h.parents_len, h.all);
}

-- ---- ends

pub no_ends : (ws : Words) (ends : List ℕ) → ((v : ℕ) → item (bits_of ends) v ≡ false) → AreEnds ws ends 0
no_ends ws ends clear v = (
  (λ one. absurd (false≢true (sym (clear v) ∙ one))),
  (λ some. absurd (omega (arith, some.1))),
)

module _ (ws : Words) (ends new : List ℕ) (j node : ℕ) where
  pub ends_more : AreEnds ws ends j → bits_of new ≡ with_number (bits_of ends) node 1 1 → node + 1 ≤ length (bits_of ends)
      → node + 1 ≡ next_at ws (length (ws.word j)) (j + 1) → AreEnds ws new (j + 1)
  ends_more were is room at v = (to, from)
    where
      written : item (bits_of new) node ≡ true
      written = ap (λ b. item b node) is ∙ bit_written (bits_of ends) node 1 room

      kept : (v ≡ node → ⊥) → item (bits_of new) v ≡ item (bits_of ends) v
      kept other =
          ap (λ b. item b v) is
          ∙ item-with_number_beside (bits_of ends) node 1 1 v room
          (⊎_elim (λ less. inl less) (λ le. inr (omega (arith, le, other))) (cases_lt v node))

      to : item (bits_of new) v ≡ true → (i : ℕ) × (i < j + 1) × (v + 1 ≡ next_at ws (length (ws.word i)) (i + 1))
      to one =
          ⊎_elim
          (λ same. (j, omega arith, omega (arith, same, at)))
          (λ other. let f = (were v).0 (sym (kept other) ∙ one) in (f.0, omega (arith, f.1), f.2))
          (cases_eq v node)

      from : (i : ℕ) × (i < j + 1) × (v + 1 ≡ next_at ws (length (ws.word i)) (i + 1)) → item (bits_of new) v ≡ true
      from some =
          ⊎_elim
          (λ same. ap (item (bits_of new)) same ∙ written)
          (λ other.
          kept other
          ∙ (were v).1 (
            some.0,
            ⊎_elim (λ less. less)
                (λ le.
                let e : some.0 ≡ j = omega (arith, le, some.1) in
                absurd (other (omega (arith, some.2, at, ap (λ i. next_at ws (length (ws.word i)) (i + 1)) e))))
                (cases_lt some.0 j),
            some.2,
          ))
          (cases_eq v node)
