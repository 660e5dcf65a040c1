-- The last entries are those of the rank where the first of them is not behind it; else the first ones are.
use Rattle.std.proofs.Common.{◌≡◌, ℕ, ◌+◌, ◌-◌, ◌*◌, ◌%◌, ◌^◌, ◌<◌, ◌≤◌, length, ap, sym, subst, ◌∙◌, arith}
use Rattle.std.proofs.Math.Pow.{pow_mono}
use Rattle.std.proofs.lemmas.Nat.{pow_pos}
use Rattle.bitm_tables.specs.Entry.{before_in_part, entries_from}
use Rattle.bitm_tables.specs.Tables.{HasTables}
use Rattle.bitm_select.specs.Search.{sought_in, Between}
use Rattle.bitm_select.proofs.lemmas.SearchLemmas.{first_of_all, last_of_all}
use Rattle.bitm_select.proofs.lemmas.SoughtLemmas.{entries_rise, first_none, low_is}
use Rattle.bitm_select.proofs.search.entries.first_half.Goals as goal
use Rattle.bitm_select.proofs.search.entries.first_half.Goals.{After-ones_to_entry}

-- what the code takes from the number of entries is a power of two
last : (g : _) (c : After-ones_to_entry g)
    → c.args.entries - 1 * 2 ^ c.args.size % 18446744073709551616
    ≡ entries_from (length (g.T.TableSource.lists c.args.source.now).lower) c.args.part - 2 ^ c.args.size
last g c =
    let few : 2 ^ c.args.size ≤ 2 ^ 21 = pow_mono c.requires.few in
    omega (arith, few, c.requires.all)

count : (g : _) (c : After-ones_to_entry g) → HasTables (g.T.TableSource.lists c.args.source.now)
    → c.ones_to_entry.result
    ≡ before_in_part (sought_in g.row.BIT (g.T.TableSource.lists c.args.source.now).words)
    (c.args.part * 2 ^ 21
    + (entries_from (length (g.T.TableSource.lists c.args.source.now).lower) c.args.part - 2 ^ c.args.size))
count g c t =
    let m = sought_in g.row.BIT (g.T.TableSource.lists c.args.source.now).words in
    let at = c.args.part * 2 ^ 21 + (c.args.entries - 1 * 2 ^ c.args.size % 18446744073709551616) in
    c.ones_to_entry.ensures ∙ low_is m c.sought_entry-entry.result at (c.sought_entry-entry.ensures.entry t)
    ∙ ap (λ (k : ℕ). before_in_part m (c.args.part * 2 ^ 21 + k)) (last g c)

pub returns-then-ones_to_entry-rank-clause-among : goal.returns-then-ones_to_entry-rank-clause-among
returns-then-ones_to_entry-rank-clause-among g c = λ t.
    let d = (goal.at.returns-then-ones_to_entry-rank-clause-among g c).After-ones_to_entry in
    let lists = g.T.TableSource.lists c.args.source.now in
    let m = sought_in g.row.BIT lists.words in
    let n = entries_from (length lists.lower) c.args.part in
    let w = 2 ^ c.args.size in
    let counts : ℕ → ℕ = λ j. before_in_part m (c.args.part * 2 ^ 21 + j) in
    let some : 0 < w = pow_pos c.args.size in
    let fits : w ≤ n = omega (arith, c.requires.least, c.requires.all) in
    let at_most : counts (n - w) ≤ c.args.rank =
    subst (λ (k : ℕ). k ≤ c.args.rank) (count g d t) c.if-ones_to_entry-rank.true in
    subst (λ (k : ℕ). Between counts n c.args.rank k w) (sym (last g d)) (last_of_all counts n c.args.rank w some fits at_most)

pub returns-else-ones_to_entry-rank-clause-among : goal.returns-else-ones_to_entry-rank-clause-among
returns-else-ones_to_entry-rank-clause-among g c = λ t.
    let d = (goal.at.returns-else-ones_to_entry-rank-clause-among g c).After-ones_to_entry in
    let lists = g.T.TableSource.lists c.args.source.now in
    let m = sought_in g.row.BIT lists.words in
    let n = entries_from (length lists.lower) c.args.part in
    let w = 2 ^ c.args.size in
    let counts : ℕ → ℕ = λ j. before_in_part m (c.args.part * 2 ^ 21 + j) in
    let some : 0 < w = pow_pos c.args.size in
    let fits : w ≤ n = omega (arith, c.requires.least, c.requires.all) in
    let more : n < 2 * w = omega (arith, c.requires.most, c.requires.all) in
    let above : c.args.rank < counts (n - w) =
    subst (λ (k : ℕ). c.args.rank < k) (count g d t) c.if-ones_to_entry-rank.false in
    let none : counts 0 ≤ c.args.rank = omega (arith, first_none m c.args.part) in
    let few : n ≤ 2 ^ 21 = omega arith in
    first_of_all counts n c.args.rank w some fits more above none
    (λ j k h l. entries_rise m c.args.part j k h (omega (arith, l, few)))
