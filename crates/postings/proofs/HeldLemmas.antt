-- The parts are the same after a call that read them.
use Rattle.std.proofs.Common.{◌≡◌, ℕ, ◌+◌, ◌<◌, List, get_or, drop, sym, ap, subst, arith, length-drop}
use Rattle.std.proofs.lemmas.List.{get_or-drop}
use Rattle.bitm_tables.specs.Tables.{HasSizes, Lists}
use Rattle.elias_fano.specs.SequenceParts.{parts_of, Holds}
use Rattle.elias_fano.specs.Low.{Lows}
use Rattle.elias_fano.specs.Parts.{items_of}
use Rattle.postings.specs.Held.{IsSpotHeld}
use Rattle.postings.specs.Moves.{IsHere, IsReaching}
use Rattle.postings.specs.Next.{IsReached}
use Rattle.postings.specs.declared.spot.Spot.{Spot}

-- what is said of the parts
pub same_parts : (P : ℕ → List ℕ → Lists → Type 0) (low new : Lows) (lists later : Lists)
    → new.words ≡ low.words → new.width ≡ low.width → later ≡ lists → P low.width low.words lists → P new.width new.words later
same_parts P low new lists later words width same h =
    subst (λ (l : Lists). P new.width new.words l) (sym same)
    (subst (λ (ws : List ℕ). P new.width ws lists) (sym words)
    (subst (λ (w : ℕ). P w low.words lists) (sym width) h))

-- where the first number that is left is at least v, so is the number at the cursor
pub reaching : (n w : ℕ) (low : List ℕ) (lists : Lists) (spot : Spot) (v : ℕ) → IsSpotHeld n w low lists spot
    → IsReached (drop spot.at (items_of n w low lists.words)) v → IsReaching n v spot
reaching n w low lists spot v h r =
    let xs = items_of n w low lists.words in
    let same : get_or xs (spot.at + 0) 0 ≡ get_or xs spot.at 0 = ap (λ (k : ℕ). get_or xs k 0) (let e : spot.at + 0 ≡ spot.at = omega arith in e) in
    let inside : spot.at < n = omega (arith, r.0, length-drop spot.at xs, h.parts.are.count) in
    record { inside = inside; at_least = omega (arith, get_or-drop spot.at xs 0 0, same, (h.here.here inside).number, r.1) }

-- a cursor at the first number
pub held_first : (xs : List ℕ) (n w : ℕ) (low : List ℕ) (lists : Lists) (spot : Spot) → Holds xs (parts_of n w low lists)
    → items_of n w low lists.words ≡ xs → HasSizes lists → IsHere xs lists.words n spot → IsSpotHeld n w low lists spot
held_first xs n w low lists spot h is sizes here = record {
  parts = subst (λ (ys : List ℕ). Holds ys (parts_of n w low lists)) (sym is) h;
  sizes = sizes;
  here = subst (λ (ys : List ℕ). IsHere ys lists.words n spot) (sym is) here;
}
