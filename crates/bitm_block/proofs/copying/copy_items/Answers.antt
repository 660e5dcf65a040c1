-- The items up to the end are those that were copied.
use Rattle.std.proofs.Common.{◌≡◌, refl, ◌∙◌, ℕ, ◌+◌, ◌-◌, List, [], ◌∷◌, length, slice_index_or, slice_set, arith}
use Rattle.std.proofs.lemmas.Grind.{get_or-set_at}
use Rattle.std.proofs.lemmas.List.{ext_get_or, get_or-set_other, get_or_default, length-set}
use Rattle.std.specs.List.{SameBelow}
use Rattle.bitm_block.proofs.copying.copy_items.Goals as goal

-- lists of one length are equal where all of their items are
same_items : {A : Type 0} (xs ys : List A) → length xs ≡ length ys → SameBelow ys xs (length xs) → xs ≡ ys
same_items [] [] len at = refl
same_items [] (y ∷ ys) len at = grind (arith, len)
same_items (x ∷ xs) ys len at = ext_get_or x (x ∷ xs) ys len (λ i. at i x)

-- and where those before the last are, and the last is set
with_last : {A : Type 0} (xs ys : List A) (x : A) (last : ℕ) → length xs ≡ length ys → length ys ≡ last + 1
    → x ≡ slice_index_or ys last x → SameBelow ys xs last → slice_set xs last x ≡ ys
with_last xs ys x last same len is before =
    same_items _ _ (length-set xs last x ∙ same) (λ i d less.
    grind (
      arith,
      less,
      same,
      len,
      is,
      before i d,
      length-set xs last x,
      get_or-set_at xs last i x d,
      get_or-set_other xs last i x d,
      get_or_default ys last d x,
    ))

pub returns-then-len-eq1 : goal.returns-then-len-eq1
returns-then-len-eq1 g c =
    let to = c.loop-pair.to in
    let from = c.args.from.now in
    let same : length to ≡ length from = omega (arith, c.loop-pair.auto.to, c.requires) in
    with_last to from c.index-from-len.result (length from - 1) same (omega (arith, c.if-len-eq1.true)) c.index-from-len.is (λ i d less.
    c.loop-pair.invariant i d (omega (arith, less, c.if-len-eq1.true, c.loop-pair-test.false)))

pub returns-else-len-eq1 : goal.returns-else-len-eq1
returns-else-len-eq1 g c =
    let to = c.loop-pair.to in
    let same : length to ≡ length c.args.from.now = omega (arith, c.loop-pair.auto.to, c.requires) in
    same_items _ _ same (λ i d less.
    c.loop-pair.invariant i d (omega (arith, less, same, c.if-len-eq1.false, c.loop-pair-test.false)))
