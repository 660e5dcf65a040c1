use Rattle.std.proofs.Common.{◌≡◌, ℕ, ◌+◌, ◌*◌, ◌/◌, ◌<◌, ◌≤◌, drop, length, slice_index}
use Rattle.bitm_tables.specs.Reads.{ReadsAtMost}
use Rattle.perfect_hash.specs.Levels.{fall_in, looked, GoesOn}
use Rattle.perfect_hash.proofs.asking.one_by.Given as goal

-- the look-up goes on from here, and for each level a bit was read, and so many seeds
abbrev pub invariant-loop-level : goal.invariant-loop-level
invariant-loop-level g l =
    let lists = g.T.TableSource.lists l.fn.source in
    let b = g.Q.Query.bits l.query lists in
    let fall = fall_in (g.P.Placing.fall l.placing) l.sizes l.hash in
    record {
      goes_on : GoesOn fall b l.sizes l.level l.begin;
      some : (i : ℕ) → i < l.level → 0 < slice_index l.sizes i;
      inside : l.begin ≤ length b / 64;
      same : g.T.TableSource.lists l.source ≡ lists;
      reads : ReadsAtMost (g.T.TableSource.reads l.fn.source) (g.T.TableSource.reads l.source) 0 0 l.level;
      words : (g.T.TableSource.reads l.source).words ≡ (g.T.TableSource.reads l.fn.source).words + g.Q.Query.words_each * l.level;
      seeds : ReadsAtMost l.fn.reads l.reads 0 0 l.level;
      counted : l.reads.words ≡ l.fn.reads.words + g.P.Placing.seeds_each * l.level;
      rest : looked fall b 0 0 l.sizes ≡ l.level + looked fall b l.level (64 * l.begin) (drop l.level l.sizes);
    }
