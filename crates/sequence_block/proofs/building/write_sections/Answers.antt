-- The source of which hints are written has the words and their tables.
use Rattle.std.proofs.Common.{◌≡◌, ◌<◌, ◌^◌, length, List, ℕ, ap, subst, sym, arith}
use Rattle.bitm_selection.specs.Hints.{hints_len, Lead}
use Rattle.bitm_tables.specs.Tables.{HasTables, Lists}
use Rattle.elias_fano.proofs.lemmas.ItemLemmas.{upper-short}
use Rattle.sequence_block.proofs.building.write_sections.Goals as goal
use Rattle.sequence_block.proofs.building.write_sections.Goals.{After-probe}

pub write_hints-requires-clause-indexed : goal.write_hints-requires-clause-indexed
write_hints-requires-clause-indexed c =
    let h = c.write_numbers.ensures.holds in
    let same = sym c.probe.ensures.lists in
    record {
      tables = subst (λ (l : Lists). HasTables l) same h.tables;
      short = subst (λ (l : Lists). length l.words < 2 ^ 58) same (upper-short _ _ _ _ _ h.are);
    }

-- there is room for the hints of the words
room : (c : After-probe) → length c.args.hints.now ≡ hints_len (length c.args.items.now) (length c.probe.result.lists.words)
room c =
    let n = length c.args.items.now in
    let same : length c.args.words.now ≡ length c.probe.result.lists.words =
    omega (arith, c.write_numbers.auto.words, ap (λ (l : Lists). length l.words) c.probe.ensures.lists) in
    omega (arith, ap (λ (w : ℕ). hints_len n w) same, c.requires.hints)

pub write_hints-requires-clause-room : goal.write_hints-requires-clause-room
write_hints-requires-clause-room c = room (goal.at.write_hints-requires-clause-room c).After-probe

pub returns-clause-hints : goal.returns-clause-hints
returns-clause-hints c =
    let n = length c.args.items.now in
    let listed : c.probe.result.lists.words ≡ c.write_numbers.new.words = ap (λ (l : Lists). l.words) c.probe.ensures.lists in
    let long = ap (λ (w : List ℕ). hints_len n (length w)) listed in
    record {
      room = omega (arith, c.write_hints.ensures.len, room (goal.at.returns-clause-hints c).After-probe, long);
      lead = subst (λ (w : List ℕ). Lead n c.write_hints.new.hints w) listed c.write_hints.ensures.lead;
    }
