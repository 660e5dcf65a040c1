-- Placing the nodes of a word.
use Rattle.std.proofs.Common.{◌≡◌, ℕ, ◌+◌, ◌-◌, ◌<◌, ◌≤◌, List, length, get_or, set, slice_index, ap, arith, length-set}
use Rattle.tree_block.specs.Levels.{next_at, AreOf, ArePlaced, IsNew}
use Rattle.tree_block.specs.Room.{IsWhole}
use Rattle.tree_block.specs.Words.{nodes_of, shared_of, Words}
use Rattle.tree_block.proofs.LevelLemmas.{count_new}
use Rattle.tree_block.proofs.OrderLemmas.{on_level, word_inside}
use Rattle.tree_block.proofs.PlaceLemmas.{last_inside, node_inside, node_some, placed_begin, placed_end, placed_more}
use Rattle.tree_block.proofs.StepLemmas.{nexts_low, nexts_past, step_begin, step_end, step_more, IsStep}

-- the nodes of word j on levels up to `depth` are placed
pub record IsPlacing (ws : Words) (next labels parents : List ℕ) (j depth : ℕ) : Type 0 where
  pub step : IsStep (next_at ws) next j depth
  pub placed : ArePlaced ws labels parents j depth
  pub whole : IsWhole ws next labels parents

module _ (ws : Words) (next labels parents : List ℕ) (j depth : ℕ) where
  pub placing_begin : IsWhole ws next labels parents → AreOf (next_at ws) next j → ArePlaced ws labels parents j 0 → depth ≡ shared_of ws j
      → IsPlacing ws next labels parents j depth
  placing_begin whole are placed is = record {
    step = step_begin (next_at ws) next j depth are (λ k le. nexts_low ws j k (omega (arith, le, is)));
    placed = placed_begin ws labels parents j depth (omega (arith, is)) placed;
    whole = whole;
  }

  pub placing_end : IsPlacing ws next labels parents j depth → depth ≡ length (ws.word j)
      → AreOf (next_at ws) next (j + 1) × ArePlaced ws labels parents (j + 1) 0
  placing_end h all = (
    step_end (next_at ws) next j depth h.step (λ k more. nexts_past ws j depth k all more),
    placed_end ws labels parents j depth (omega (arith, all)) h.placed,
  )

module _ (ws : Words) (next labels parents : List ℕ) (j depth : ℕ) (h : IsPlacing ws next labels parents j depth) (inside : j < ws.count)
    (new : IsNew ws depth j) where
  -- the next node of the level
  pub room : depth + 1 < length next
  room = omega (arith, new.to, word_inside ws j inside, h.whole.next_len)

  pub node_is : get_or next (depth + 1) 0 ≡ next_at ws (depth + 1) j
  node_is = h.step.rest (depth + 1) (omega arith) room

  pub parent_is : get_or next depth 0 ≡ next_at ws depth (j + 1)
  parent_is = h.step.done depth (omega arith) (omega (arith, room))

  pub node_low : 1 ≤ get_or next (depth + 1) 0
  node_low = omega (arith, node_is, node_some ws next labels parents h.whole depth j)

  pub node_high : get_or next (depth + 1) 0 < nodes_of ws
  node_high = omega (arith, node_is, node_inside ws next labels parents h.whole depth j inside new)

  pub parent_low : 1 ≤ get_or next depth 0
  parent_low = omega (arith, parent_is, on_level ws depth j (omega (arith, new.to)))

  pub placing_more : (x : ℕ) → x ≡ slice_index (ws.word j) depth
      → IsPlacing ws (set next (depth + 1) (get_or next (depth + 1) 0 + 1)) (set labels (get_or next (depth + 1) 0 - 1) x)
      (set parents (get_or next (depth + 1) 0 - 1) (get_or next depth 0 - 1)) j (depth + 1)
  placing_more x letter =
      let node = get_or next (depth + 1) 0 in
      let parent = get_or next depth 0 - 1 in
      record {
        step =
            step_more (next_at ws) next j depth (node + 1) h.step room
            (omega (arith, node_is, count_new ws depth j new.from new.to));
        placed =
            placed_more ws next labels parents h.whole j depth inside node x parent h.placed new node_is letter
            (omega (arith, parent_is, parent_low));
        whole = record {
          next_len = omega (arith, length-set next (depth + 1) (node + 1), h.whole.next_len);
          labels_len = omega (arith, length-set labels (node - 1) x, h.whole.labels_len);
          parents_len = omega (arith, length-set parents (node - 1) parent, h.whole.parents_len);
          all = h.whole.all;
        };
      }

-- the node to which a word leads, when its nodes are placed
pub record IsEnding (ws : Words) (next : List ℕ) (j len : ℕ) : Type 0 where
  pub room : len < length next
  pub low : 1 ≤ get_or next len 0
  pub high : get_or next len 0 ≤ nodes_of ws
  pub at : get_or next len 0 - 1 + 1 ≡ next_at ws (length (ws.word j)) (j + 1)

pub ending : (ws : Words) (next labels parents : List ℕ) (j len : ℕ) → IsWhole ws next labels parents → AreOf (next_at ws) next (j + 1) → j < ws.count
    → len ≡ length (ws.word j) → IsEnding ws next j len
ending ws next labels parents j len whole are inside is =
    let room : len < length next = omega (arith, is, word_inside ws j inside, whole.next_len) in
    let here : get_or next len 0 ≡ next_at ws len (j + 1) = are len room in
    let last = last_inside ws next labels parents whole len j inside (omega (arith, is)) in
    record {
      room = room;
      low = omega (arith, here, last.0);
      high = omega (arith, here, last.1);
      at = omega (arith, here, last.0, ap (λ l. next_at ws l (j + 1)) is);
    }
