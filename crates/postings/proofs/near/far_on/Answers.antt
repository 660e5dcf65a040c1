-- The number is at the position that was found.
use Rattle.std.proofs.Common.{◌≡◌, ℕ, ◌≤◌, List, true, get_or, sym, ap, subst, arith}
use Rattle.bit_lists.specs.Count.{count_of, Picks}
use Rattle.bitm_tables.specs.Tables.{bits_in, HasTables, Lists}
use Rattle.elias_fano.specs.SequenceParts.{parts_with, Holds}
use Rattle.elias_fano.specs.Parts.{HasOneAt}
use Rattle.postings.proofs.near.far_on.Goals as goal
use Rattle.postings.proofs.near.far_on.Goals.{After-item_at_one-number}

pub returns-in-Absent-total_select_on-clause-far : goal.returns-in-Absent-total_select_on-clause-far
returns-in-Absent-total_select_on-clause-far g c = λ xs h.
    let same = c.total_first_at_least_on.ensures.reads.same in
    let tables : HasTables (g.T.TableSource.lists c.total_first_at_least_on.new.source) = subst HasTables (sym same) h.tables in
    let few : count_of (bits_in (g.T.TableSource.lists c.total_first_at_least_on.new.source)) true ≤ c.in-Found.at = c.in-Absent-total_select_on.ensures.answer tables in
    omega (arith, few, ap (λ (l : Lists). count_of (bits_in l) true) same, c.one_for_each_item.ensures xs _ _ h.are.upper_is, (c.in-Found.ensures.answer xs h).inside)

pub returns-in-Absent-total_select_on-clause-shared : goal.returns-in-Absent-total_select_on-clause-shared
returns-in-Absent-total_select_on-clause-shared g c = λ xs h.
    let f = c.total_first_at_least_on.ensures.shared xs h in
    record { at_most = omega (arith, f.at_most); words = f.words; width = f.width }

one : (g : _) (c : After-item_at_one-number g) (xs : List ℕ) → Holds xs (parts_with c.args.n c.args.low.now (g.T.TableSource.lists c.args.source.now))
    → Picks (bits_in (g.T.TableSource.lists c.args.source.now)) true c.in-Found.at c.in-Found-total_select_on.one
one g c xs h =
    let same = c.total_first_at_least_on.ensures.reads.same in
    let tables : HasTables (g.T.TableSource.lists c.total_first_at_least_on.new.source) = subst HasTables (sym same) h.tables in
    subst (λ (l : Lists). Picks (bits_in l) true c.in-Found.at c.in-Found-total_select_on.one) same (c.in-Found-total_select_on.ensures.answer tables)

number : (g : _) (c : After-item_at_one-number g) (xs : List ℕ) → Holds xs (parts_with c.args.n c.args.low.now (g.T.TableSource.lists c.args.source.now))
    → c.item_at_one-number.result ≡ get_or xs c.in-Found.at 0
number g c xs h =
    let at = c.in-Found.at in
    let f = c.total_first_at_least_on.ensures.shared xs h in
    let upper = (g.T.TableSource.lists c.args.source.now).words in
    let here : HasOneAt xs c.args.n c.args.low.now.width c.args.low.now.words upper at c.in-Found-total_select_on.one =
    record { parts = h.are; inside = omega (arith, (c.in-Found.ensures.answer xs h).inside, h.are.count); one = one g c xs h } in
    c.item_at_one-number.ensures.item xs c.args.n upper
    (subst (λ (ws : List ℕ). HasOneAt xs c.args.n c.total_first_at_least_on.new.low.width ws upper at c.in-Found-total_select_on.one) (sym f.words)
    (subst (λ (w : ℕ). HasOneAt xs c.args.n w c.args.low.now.words upper at c.in-Found-total_select_on.one) (sym f.width) here))

pub returns-then-number-v-clause-far : goal.returns-then-number-v-clause-far
returns-then-number-v-clause-far g c = λ xs h.
    let w = (goal.at.returns-then-number-v-clause-far g c).After-item_at_one-number in
    omega (arith, number g w xs h, c.if-number-v.true, (c.in-Found.ensures.answer xs h).at_least)

pub returns-clause-far : goal.returns-clause-far
returns-clause-far g c = λ xs h.
    let w = (goal.at.returns-clause-far g c).After-item_at_one-number in
    let reach = c.in-Found.ensures.answer xs h in
    (record { inside = reach.inside; one = one g w xs h; number = number g w xs h }, reach)
