-- The nodes of a trie level by level: of a level, those that an earlier word adds come first.
use Rattle.std.specs.Prelude.{◌≡◌, ℕ, zero, suc, ◌+◌, ◌<◌, ◌≤◌, ◌&&◌, nat_le, nat_lt, ◌↔◌, true, cond, List, length, slice_index}
use Rattle.bit_lists.specs.Bits.{bits_of, item}
use Rattle.tree_block.specs.Words.{shared_of, Words}

-- 1 where word j adds a child to a node of level k, and else 0
abbrev pub adds : Words → ℕ → ℕ → ℕ
adds ws k j = cond (nat_le (shared_of ws j) k && nat_lt k (length (ws.word j))) 1 0

-- how many nodes of level k the first j words add: the root is there without them
unfoldable pub count_at : Words → ℕ → ℕ → ℕ
count_at ws zero j = 1
count_at ws (suc k) zero = 0
count_at ws (suc k) (suc j) = count_at ws (suc k) j + adds ws k j

-- how many nodes stand above level k
unfoldable pub above : Words → ℕ → ℕ
above ws zero = 0
above ws (suc k) = above ws k + count_at ws k ws.count

-- the next node of level k after those that the first j words add
abbrev pub next_at : Words → ℕ → ℕ → ℕ
next_at ws k j = above ws k + count_at ws k j

-- item k is the number that f gives level k after the first j words
abbrev pub AreOf : (ℕ → ℕ → ℕ) → List ℕ → ℕ → Type 0
AreOf f xs j = (k : ℕ) → k < length xs → slice_index xs k ≡ f k j

-- word j adds a child to a node of level k
pub record IsNew (ws : Words) (k j : ℕ) : Type 0 where
  pub from : shared_of ws j ≤ k
  pub to : k < length (ws.word j)

-- the label and the parent of that child stand where it has its number, less 1 since the root has neither
abbrev pub IsChildPlaced : Words → List ℕ → List ℕ → ℕ → ℕ → Type 0
IsChildPlaced ws labels parents k j =
    (v : ℕ) → v + 1 ≡ next_at ws (k + 1) j
    → (slice_index labels v ≡ slice_index (ws.word j) k) × (slice_index parents v + 1 ≡ next_at ws k (j + 1))

-- those of all nodes that the words before word j add, and of its own to nodes of levels less than `depth`
pub record ArePlaced (ws : Words) (labels parents : List ℕ) (j depth : ℕ) : Type 0 where
  pub earlier : (k i : ℕ) → i < j → IsNew ws k i → IsChildPlaced ws labels parents k i
  pub own : (k : ℕ) → k < depth → IsNew ws k j → IsChildPlaced ws labels parents k j

-- the bits that are 1 are those of the nodes to which the first j words lead
abbrev pub AreEnds : Words → List ℕ → ℕ → Type 0
AreEnds ws ends j =
    (v : ℕ) → (item (bits_of ends) v ≡ true) ↔ ((i : ℕ) × (i < j) × (v + 1 ≡ next_at ws (length (ws.word i)) (i + 1)))
