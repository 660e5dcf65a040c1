-- The items of a block that may hold anything, one after another.
use Rattle.std.specs.Prelude.{◌≡◌, ℕ, ◌+◌, ◌-◌, List, Option, drop, length, MatchOption}
use Rattle.std.specs.Iterator.{YieldsFirst}

-- the parts of a block, and how many items are to come at most
pub record Left (V : Type 0) : Type 0 where
  pub parts : V
  pub left : ℕ

-- the last items of a list, as many as are left
abbrev pub items_coming : {V : Type 0} → List ℕ → Left V → List ℕ
items_coming xs it = drop (length xs - it.left) xs

-- a call gave an item, and one less is left, or it gave none, and none is left. Where the parts hold a list, it gave the
-- first of those to come
pub record Gives {V : Type 0} (holds : List ℕ → V → Type 0) (old : Left V) (result : Option ℕ) (new : Left V) : Type 0 where
  pub kept : new.parts ≡ old.parts
  pub fewer : MatchOption result (new.left ≡ 0) (λ _. old.left ≡ new.left + 1)
  pub first : (xs : List ℕ) → holds xs old.parts → YieldsFirst (items_coming xs) old result new
