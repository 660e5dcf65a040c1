-- Of two 1 bits the one of the greater rank stands behind.
use Rattle.std.proofs.Common.{ℕ, ◌+◌, ◌-◌, ◌<◌, ◌≡◌, true, List, Bool, ⊎_elim, subst, arith}
use Rattle.std.proofs.lemmas.Bool.{cases_lt}
use Rattle.bitm.proofs.BitLaws.{bits_are_counted, counts_grow}
use Rattle.bitm.proofs.Callers.{ones_are_bits}
use Rattle.bitm.specs.Count.{Picks}
use Rattle.bitm.specs.Tables.{bits_in, HasTables, Lists}
use Rattle.example_callers.proofs.selection.gap_by.Goals as goal

pub overflow_add-rank : goal.overflow_add-rank
overflow_add-rank g c =
    let lists = g.T.TableSource.lists c.args.source.now in
    record { fits = omega (arith, c.requires.both, ones_are_bits (bits_in lists), bits_are_counted lists.words, c.requires.indexed.short) }

behind : (b : List Bool) (r p q : ℕ) → Picks b true r p → Picks b true (r + 1) q → p < q
behind b r p q one next =
    ⊎_elim (λ order. order) (λ late. absurd (omega (arith, counts_grow b true q p late, one.before, next.before))) (cases_lt p q)

-- the first search left the lists as they were
then : (finds : Lists → Type 0) (old new : Lists) (r q : ℕ) → new ≡ old → (HasTables new → finds new → Picks (bits_in new) true r q)
    → HasTables old → finds old → Picks (bits_in old) true r q
then finds old new r q same = let P : Lists → Type 0 = λ ls. HasTables ls → finds ls → Picks (bits_in ls) true r q in subst P same

order : (finds : Lists → Type 0) (old new : Lists) (r p q : ℕ) → new ≡ old → HasTables old → finds old
    → (HasTables old → finds old → Picks (bits_in old) true r p) → (HasTables new → finds new → Picks (bits_in new) true (r + 1) q) → p < q
order finds old new r p q same h f one next = behind (bits_in old) r p q (one h f) (then finds old new (r + 1) q same next h f)

pub overflow_sub-result : goal.overflow_sub-result
overflow_sub-result g c =
    let finds = g.F.Finds.finds c.args.finder.now in
    omega (
      arith,
      order finds _ _ c.args.rank _ _ c.in-Found.ensures.reads.same c.requires.indexed.tables c.requires.finds c.in-Found.ensures.answer c.in-Found-one.ensures.answer,
    )

pub overflow_sub-result-2 : goal.overflow_sub-result-2
overflow_sub-result-2 g c =
    let finds = g.F.Finds.finds c.args.finder.now in
    omega (
      arith,
      order finds _ _ c.args.rank _ _ c.in-Found.ensures.reads.same c.requires.indexed.tables c.requires.finds c.in-Found.ensures.answer c.in-Found-one.ensures.answer,
    )

pub returns-clause-gap : goal.returns-clause-gap
returns-clause-gap g c =
    let lists = g.T.TableSource.lists c.args.source.now in
    let finds = g.F.Finds.finds c.args.finder.now in
    let one = c.in-Found.ensures.answer c.requires.indexed.tables c.requires.finds in
    let next = then finds _ _ _ _ c.in-Found.ensures.reads.same c.in-Found-one.ensures.answer c.requires.indexed.tables c.requires.finds in
    let less = behind (bits_in lists) c.args.rank _ _ one next in
    let at : c.in-Found-one.next ≡ c.in-Found.one + 1 + (c.in-Found-one.next - c.in-Found.one - 1) = omega (arith, less) in
    (c.in-Found.one, one, subst (λ (q : ℕ). Picks (bits_in lists) true (c.args.rank + 1) q) at next)
