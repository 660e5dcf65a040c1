-- Parts of a list that are written one after the other.
use Rattle.std.proofs.Common.{◌≡◌, ℕ, ◌≤◌, Option, Some, None, SomeIff, IfSome, List, ◌++◌, length, take, drop, sym, ap, ◌∙◌}
use Rattle.std.proofs.Math.Seq.{drop-append_seam}
use Rattle.std.proofs.lemmas.List.{length-take-le, take-append-le}
use borrow.Rule.Slice.PartMut.{post_of, put_mid}

-- what holds where there is something holds where there has to be something
pub held : (o : Option ℕ) (P Q : Type 0) (x : ℕ) → SomeIff o P x → P → IfSome o (λ _. Q) → Q
held None P Q x none p q = absurd (none p)
held (Some y) P Q x some p q = q

-- the first items of the part that was written from item a on
pub part_written : (a k n : ℕ) (xs ys : List ℕ) → a ≤ length xs → n ≤ length ys → take n (drop a (put_mid a k xs ys)) ≡ take n ys
part_written a k n xs ys begun inside =
    let long : length (take a xs) ≡ a = length-take-le a xs begun in
    ap (λ (i : ℕ). take n (drop i (put_mid a k xs ys))) (sym long)
    ∙ ap (take n) (drop-append_seam (take a xs) (ys ++ post_of a k xs))
    ∙ take-append-le n ys (post_of a k xs) inside
