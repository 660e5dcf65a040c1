-- What a strategy that asks another one shows: that one, and how many items there are.
use Rattle.std.specs.Prelude.{ℕ}

pub record Guard (S : Type 0) : Type 0 where
  pub inner : S
  pub items : ℕ
