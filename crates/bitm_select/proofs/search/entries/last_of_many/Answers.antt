-- All entries of the part are a range, and as many halvings serve as their number has digits.
use Rattle.std.proofs.Common.{◌≡◌, ℕ, ◌+◌, ◌*◌, ◌^◌, ◌<◌, length, sym, subst, arith}
use Rattle.bitm_tables.specs.Entry.{before_in_part, entries_from}
use Rattle.bitm_select.specs.Search.{Between, sought_in}
use Rattle.bitm_select.proofs.lemmas.SearchLemmas.{search_begins}
use Rattle.bitm_tables.proofs.lemmas.LengthLemmas.{first_of_part}
use Rattle.bitm_select.proofs.lemmas.SoughtLemmas.{first_none}
use Rattle.bitm_select.proofs.search.entries.last_of_many.Goals as goal

pub entries_of_part-entries-requires : goal.entries_of_part-entries-requires
entries_of_part-entries-requires g c =
    omega (arith, first_of_part _ c.requires.sized c.args.part c.requires.inside, c.lower_len.ensures)

pub narrow_by_guess-range-requires-clause-range : goal.narrow_by_guess-range-requires-clause-range
narrow_by_guess-range-requires-clause-range g c =
    let lists = g.T.TableSource.lists c.args.source.now in
    let m = sought_in g.row.BIT lists.words in
    let n = entries_from (length lists.lower) c.args.part in
    let size : c.entries_of_part-entries.result ≡ n = omega (arith, c.entries_of_part-entries.ensures, c.lower_len.ensures) in
    let count : ℕ → ℕ = λ j. before_in_part m (c.args.part * 2 ^ 21 + j) in
    let some : 0 < n = omega (arith, first_of_part lists c.requires.sized c.args.part c.requires.inside) in
    record {
      some = omega (arith, size, some);
      within = omega (arith, size);
      among = λ _. subst (Between count n c.args.rank 0) (sym size) (search_begins count n c.args.rank some (omega (arith, first_none m c.args.part)));
      packed = λ h. absurd (omega (arith, h));
    }
