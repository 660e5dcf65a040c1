-- How many items a filter keeps.
use Rattle.std.proofs.Common.{ℕ, suc, ◌≤◌, List, [], ◌∷◌, length, Option, None, Some, arith}
use Rattle.std.specs.List.{filter_map, cons_option}

length_cons : {Y : Type 0} (o : Option Y) (ys : List Y) (n : ℕ) → length ys ≤ n → length (cons_option o ys) ≤ suc n
length_cons None ys n h = omega arith
length_cons (Some y) ys n h = omega arith

pub length_filter_map : {X Y : Type 0} (f : X → Option Y) (xs : List X) → length (filter_map f xs) ≤ length xs
length_filter_map f [] = omega arith
length_filter_map f (x ∷ xs) = length_cons (f x) (filter_map f xs) (length xs) (length_filter_map f xs)
