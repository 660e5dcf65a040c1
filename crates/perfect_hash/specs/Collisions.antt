-- What is known where keys collide.
use Rattle.std.specs.Prelude.{◌≡◌, ℕ, List, ⊤}
use Rattle.bit_lists.specs.Bits.{bits_of}
use Rattle.perfect_hash.specs.Levels.{fall_in, AreChosen, AreSized, Collide}
use Rattle.perfect_hash.specs.Positions.{position_in}
use Rattle.perfect_hash.specs.declared.levels.error.BuildError.{BuildError}
use Rattle.perfect_hash.specs.declared.levels.error.BuildError.TheVariants.{KeysCollide, TooLarge, OutOfMemory}

-- where keys collide, the given number of hashes are left after all levels
abbrev pub IfCollide : BuildError → List ℕ → Type 0
IfCollide (KeysCollide count) hashes = Collide position_in hashes count
IfCollide TooLarge hashes = ⊤
IfCollide OutOfMemory hashes = ⊤

-- the same where something of type P places hashes
abbrev pub IfCollideBy : {P : Type 0} → (P → ℕ → ℕ → ℕ → ℕ → ℕ) → BuildError → List ℕ → Type 0
IfCollideBy {P} by (KeysCollide count) hashes = (p : P) × (sizes : List ℕ) × Collide (fall_in (by p) sizes) hashes count
IfCollideBy by TooLarge hashes = ⊤
IfCollideBy by OutOfMemory hashes = ⊤

-- the levels that keys collide in have as many words as are taken for the hashes that are left before each
abbrev pub CollideBySize : {P : Type 0} → (ℕ → ℕ) → (P → ℕ → ℕ → ℕ → ℕ → ℕ) → BuildError → List ℕ → Type 0
CollideBySize {P} taken by (KeysCollide count) hashes =
    (p : P) × (sizes : List ℕ) × (c : Collide (fall_in (by p) sizes) hashes count)
    × (c.sizes ≡ sizes) × AreSized taken (fall_in (by p) sizes) hashes (bits_of c.words) 0 0 sizes
CollideBySize taken by TooLarge hashes = ⊤
CollideBySize taken by OutOfMemory hashes = ⊤

-- the levels that keys collide in are chosen one after another, each for the hashes that are left before it
abbrev pub CollideChosen : {P : Type 0} → (P → P → ℕ → List ℕ → ℕ → ℕ → Type 0) → (P → ℕ → ℕ → ℕ → ℕ → ℕ) → P → BuildError → List ℕ → Type 0
CollideChosen {P} chooses by first (KeysCollide count) hashes =
    (p : P) × (sizes : List ℕ) × (c : Collide (fall_in (by p) sizes) hashes count)
    × (c.sizes ≡ sizes) × AreChosen chooses (fall_in (by p) sizes) hashes (bits_of c.words) 0 0 0 sizes first p
CollideChosen chooses by first TooLarge hashes = ⊤
CollideChosen chooses by first OutOfMemory hashes = ⊤

-- the same sizes where hashes alone say where they fall
abbrev pub CollideOfSize : (ℕ → ℕ) → BuildError → List ℕ → Type 0
CollideOfSize taken (KeysCollide count) hashes =
    (c : Collide position_in hashes count) × AreSized taken position_in hashes (bits_of c.words) 0 0 c.sizes
CollideOfSize taken TooLarge hashes = ⊤
CollideOfSize taken OutOfMemory hashes = ⊤
