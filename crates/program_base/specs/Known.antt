-- What is known of the bytes that a program reads.
use Rattle.std.specs.Prelude.{◌≡◌, ℕ, List, Option, None, IfSome}

-- the bytes of the file at each path, and those of the standard input, where they are known
pub record Known : Type 0 where
  pub files : List ℕ → Option (List ℕ)
  pub input : Option (List ℕ)

-- of a process nothing is known
abbrev pub unknown : Known
unknown = record { files = λ path. None; input = None }

-- the bytes are those that are known, where any are
abbrev pub IsKnownAs : Option (List ℕ) → List ℕ → Type 0
IsKnownAs known bytes = IfSome known (λ said. said ≡ bytes)
