-- The entry in the middle shows on which side of it the last one is.
use Rattle.std.proofs.Common.{◌≡◌, ℕ, ◌+◌, ◌-◌, ◌*◌, ◌%◌, ◌^◌, ◌<◌, ◌≤◌, length, sym, subst, ◌∙◌, arith, inl, inr}
use Rattle.std.proofs.lemmas.Bool.{cases_lt}
use Rattle.std.proofs.lemmas.Nat.{pow-add, pow_pos}
use Rattle.bitm_tables.specs.Entry.{before_in_part, entries_from}
use Rattle.bitm_select.specs.Search.{sought_in, Between}
use Rattle.bitm_select.proofs.lemmas.SearchLemmas.{goes_over, goes_under, no_step, one_step, step_few}
use Rattle.bitm_select.proofs.lemmas.SoughtLemmas.{low_is}
use Rattle.bitm_select.proofs.search.entries.step.Goals as goal

pub returns-clause-among : goal.returns-clause-among
returns-clause-among g c = λ t among.
    let lists = g.T.TableSource.lists c.args.source.now in
    let m = sought_in g.row.BIT lists.words in
    let part = c.args.part in
    let low = c.args.low in
    let rank = c.args.rank in
    let w = 2 ^ c.args.size in
    let all = 2 ^ (c.args.size + 1) in
    let n = entries_from (length lists.lower) part in
    let counts : ℕ → ℕ = λ j. before_in_part m (part * 2 ^ 21 + j) in
    let small : w ≤ 2 ^ 20 = step_few c.args.size c.requires.size in
    let some : 0 < w = pow_pos c.args.size in
    let twice : all ≡ w * 2 = omega (arith, pow-add 2 c.args.size 1) in
    let at : part * 2 ^ 21 + low + 1 * w % 18446744073709551616 ≡ part * 2 ^ 21 + (low + w) = omega (arith, small) in
    let count : c.ones_to_entry-count.result ≡ counts (low + w) =
    subst (λ (k : ℕ). c.ones_to_entry-count.result ≡ before_in_part m k) at
    (c.ones_to_entry-count.ensures
    ∙ low_is m c.sought_entry.result (part * 2 ^ 21 + low + 1 * w % 18446744073709551616) (c.sought_entry.ensures.entry t)) in
    elim (cases_lt rank c.ones_to_entry-count.result) [
      | inl above ↦
          let stays = no_step c.is_at_most.result low w (c.is_at_most.ensures.no above) in
          subst (λ (k : ℕ). Between counts n rank k w) (sym stays)
          (goes_under counts n rank low all w among some (omega (arith, twice, some)) (omega (arith, above, count)))
      | inr at_most ↦
          let up = one_step c.is_at_most.result low w (c.is_at_most.ensures.yes at_most) small in
          let left : all - w ≡ w = omega (arith, twice) in
          subst (λ (k : ℕ). Between counts n rank k w) (sym up)
          (subst (λ (k : ℕ). Between counts n rank (low + w) k) left
          (goes_over counts n rank low all w among some (omega (arith, twice, some)) (omega (arith, at_most, count))))
    ]
