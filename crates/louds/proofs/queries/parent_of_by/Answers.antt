-- The parent of which the node is a child, and where its ones begin.
use Rattle.std.proofs.Common.{◌≡◌, ◌+◌, ◌<◌, ℕ, Some, get_or, sym, ◌∙◌, arith, rules, subst}
use Rattle.std.proofs.lemmas.Option.{same_Some}
use Rattle.bitm_tables.specs.Reads.{OnlyReads}
use Rattle.bitm_tables.specs.Tables.{Lists}
use Rattle.louds.proofs.lemmas.HeldLemmas.{one_of_child}
use Rattle.louds.proofs.lemmas.TreeLemmas.{one_parent}
use Rattle.louds.specs.Counted.{degrees_in, IsLouds}
use Rattle.louds.specs.Held.{zero_position}
use Rattle.louds.specs.Tree.{IsChild}
use Rattle.louds.proofs.queries.parent_of_by.Goals as goal
use Rattle.louds.proofs.queries.parent_of_by.Goals.{After-start_by}

module _ (g : _) (c : After-start_by g) where
  abbrev lists : Lists
  lists = g.T.TableSource.lists c.args.source.now

  abbrev i : ℕ
  i = c.in-Found.number

  module _ (h : IsLouds c.args.len lists) (f : g.F.Finds.finds c.args.finder.now lists) where
    -- which child of its parent the node is, and where its one stands
    claimed : (k : ℕ) × IsChild (degrees_in c.args.len lists) i k c.args.node × (c.in-Some.one ≡ zero_position (degrees_in c.args.len lists) i + 1 + k)
    claimed =
        let one = c.in-Some.ensures.position h f in
        let own = (c.in-Found.ensures.answer _ h.held.count one).1 in
        (own.0, own.1, one_of_child _ i own.0 c.args.node c.in-Some.one (omega (arith, c.if-node-eq0.false)) one own.1)

    -- the search left the lists as they were, so what is said of the new ones holds of them
    start : c.start_by.result ≡ Some (zero_position (degrees_in c.args.len lists) i)
    start =
        let P : Lists → Type 0 = λ ls. IsLouds c.args.len ls → g.F.Finds.finds c.args.finder.now ls
        → (k : ℕ) → k < get_or (degrees_in c.args.len ls) i 0 → c.in-Some.one ≡ zero_position (degrees_in c.args.len ls) i + 1 + k
        → c.start_by.result ≡ Some (zero_position (degrees_in c.args.len ls) i) in
        subst P c.one_by.ensures.reads.same c.start_by.ensures.position h f claimed.0 claimed.1.some claimed.2

    near : (j k : ℕ) → IsChild (degrees_in c.args.len lists) j k c.args.node → k < 64
        → OnlyReads g.T.TableSource.lists g.T.TableSource.reads c.one_by.new.source c.start_by.new.source 0 0 2
    near j k child few =
        let P : Lists → Type 0 = λ ls. IsLouds c.args.len ls
        → (m : ℕ) → m < get_or (degrees_in c.args.len ls) i 0 → c.in-Some.one ≡ zero_position (degrees_in c.args.len ls) i + 1 + m
        → m < 64 → OnlyReads g.T.TableSource.lists g.T.TableSource.reads c.one_by.new.source c.start_by.new.source 0 0 2 in
        let same = one_parent _ i j claimed.0 k c.args.node claimed.1 child in
        subst P c.one_by.ensures.reads.same c.start_by.ensures.near h claimed.0 claimed.1.some claimed.2 (omega (arith, same.1, few))

pub returns-in-Some-start_by-clause-answer : goal.returns-in-Some-start_by-clause-answer
returns-in-Some-start_by-clause-answer g c = λ h f.
    let here = (goal.at.returns-in-Some-start_by-clause-answer g c).After-start_by in
    let own = claimed g here h f in (
      record { inside = own.1.node; position = same_Some _ _ (sym c.in-Some-start_by.is ∙ start g here h f) },
      c.in-Found.ensures.inside.0,
      (own.0, own.1),
    )

pub returns-in-None-clause-answer : goal.returns-in-None-clause-answer
returns-in-None-clause-answer g c = λ h f.
    let none = sym c.in-None.is ∙ start g (goal.at.returns-in-None-clause-answer g c).After-start_by h f in cc

pub returns-in-Some-start_by-clause-near : goal.returns-in-Some-start_by-clause-near
returns-in-Some-start_by-clause-near g c = λ h f j k child few.
    let first = c.one_by.ensures.reads in
    let then = near g (goal.at.returns-in-Some-start_by-clause-near g c).After-start_by h f j k child few in
    search rules

pub returns-in-None-clause-near : goal.returns-in-None-clause-near
returns-in-None-clause-near g c = λ h f j k child few.
    let first = c.one_by.ensures.reads in
    let then = near g (goal.at.returns-in-None-clause-near g c).After-start_by h f j k child few in
    search rules
