-- One label more leads to the one child that has it.
use Rattle.std.proofs.Common.{◌≡◌, ℕ, ◌+◌, ◌*◌, ◌<◌, ◌≤◌, List, length, take, get_or, refl, sym, arith, subst}
use Rattle.bit_lists.specs.Bits.{digit_count}
use Rattle.bitm_tables.specs.Tables.{HasSizes, Lists}
use Rattle.louds.specs.Counted.{degrees_in, IsLouds}
use Rattle.louds.specs.Labels.{IsChildWith, Leads, Rise}
use Rattle.louds.proofs.lemmas.LeadingLemmas.{down_more, leads_nowhere, on_more}
use Rattle.louds.proofs.lemmas.ReadLemmas.{labels_more, labels_most, moved, same_held, same_read, selects_nothing, selects_then}
use Rattle.louds.proofs.leading.longest_by.Goals as goal

-- what a child that was found says, in the source and the labels that were given
abbrev HasChild : (Lists → Type 0) → ℕ → ℕ → ℕ → ℕ → Lists → List ℕ → Type 0
HasChild finds n at x child lists ls = IsLouds n lists → finds lists → Rise (degrees_in n lists) ls → IsChildWith (degrees_in n lists) ls at x child

-- and what none says
abbrev HasNone : (Lists → Type 0) → ℕ → ℕ → ℕ → Lists → List ℕ → Type 0
HasNone finds n at x lists ls = IsLouds n lists → finds lists → Rise (degrees_in n lists) ls → (u : ℕ) → IsChildWith (degrees_in n lists) ls at x u → ⊥

pub child_by_label_by-requires-clause-sized : goal.child_by_label_by-requires-clause-sized
child_by_label_by-requires-clause-sized g c =
    subst (λ (m : Lists). HasSizes m) (sym c.loop-i.invariant.reads.same) c.requires.sized

pub child_by_label_by-requires-clause-labels : goal.child_by_label_by-requires-clause-labels
child_by_label_by-requires-clause-labels g c =
    let L = g.L.Labels in
    let i = c.loop-i.invariant.labels in
    same_held L.fitting (L.seen c.args.labels.now) (L.seen c.loop-i.labels) c.args.len i.words i.width c.requires.labels

pub loop-i-init : goal.loop-i-init
loop-i-init g c =
    let T = g.T.TableSource in
    record {
      inside = omega (arith, c.if-len-eq0.false);
      down = λ held finds rise. refl;
      on = λ held finds rise k from to v leads. leads;
      reads = selects_nothing T.lists T.reads g.F.Finds.most c.args.source.now 0 0;
      labels = record { at_most = omega arith; words = refl; width = refl };
    }

pub loop-i-preserved : goal.loop-i-preserved
loop-i-preserved g c =
    let T = g.T.TableSource in
    let n = c.args.len in
    let old = T.lists c.args.source.now in
    let d = degrees_in n old in
    let L = g.L.Labels in
    let finds_in = g.F.Finds.finds c.args.finder.now in
    let seen = L.seen c.args.labels.now in
    let ls = L.listed seen.words seen.width n in
    let word = g.W.Letters.letters c.args.word in
    let i = c.loop-i.i in
    let at = c.loop-i.at in
    let child = c.in-Found.child in
    let inv = c.loop-i.invariant in
    let has : HasChild finds_in n at (get_or word i 0) child old ls =
    subst (λ (x : ℕ). HasChild finds_in n at x child old ls) c.letter_at-label.ensures
    (moved (HasChild finds_in n at c.letter_at-label.result child) old (T.lists c.loop-i.source) ls _ inv.reads.same
    (same_read L.listed seen (L.seen c.loop-i.labels) n inv.labels.words inv.labels.width) c.in-Found.ensures.answer) in
    let inside : i < length word = omega (arith, c.loop-i-test.true, c.len-count.ensures) in
    record {
      inside = c.in-Found.ensures.inside.1;
      down = λ held finds rise. down_more d ls word i at child inside (has held finds rise) (inv.down held finds rise);
      on = λ held finds rise. on_more d ls word i at child rise (has held finds rise) (inv.on held finds rise);
      reads =
          selects_then T.lists T.reads g.F.Finds.most c.args.source.now c.loop-i.source _ (2 * i) 2 (2 * (i + 1)) (2 * i) 2 (2 * (i + 1)) inv.reads
          c.in-Found.ensures.reads (omega arith) (omega arith);
      labels = labels_more seen (L.seen c.loop-i.labels) _ i (digit_count n + 1) inv.labels c.in-Found.ensures.labels;
    }

pub returns-in-Absent-clause-answer : goal.returns-in-Absent-clause-answer
returns-in-Absent-clause-answer g c =
    let T = g.T.TableSource in
    let n = c.args.len in
    let old = T.lists c.args.source.now in
    let L = g.L.Labels in
    let finds_in = g.F.Finds.finds c.args.finder.now in
    let seen = L.seen c.args.labels.now in
    let ls = L.listed seen.words seen.width n in
    let word = g.W.Letters.letters c.args.word in
    let i = c.loop-i.i in
    let at = c.loop-i.at in
    let inv = c.loop-i.invariant in
    let none : HasNone finds_in n at (get_or word i 0) old ls =
    subst (λ (x : ℕ). HasNone finds_in n at x old ls) c.letter_at-label.ensures
    (moved (HasNone finds_in n at c.letter_at-label.result) old (T.lists c.loop-i.source) ls _ inv.reads.same
    (same_read L.listed seen (L.seen c.loop-i.labels) n inv.labels.words inv.labels.width) c.in-Absent.ensures.answer) in
    λ held finds rise. (inv.down held finds rise, leads_nowhere (degrees_in n old) ls word i at (none held finds rise) (inv.on held finds rise))

pub returns-in-Absent-clause-reads : goal.returns-in-Absent-clause-reads
returns-in-Absent-clause-reads g c =
    let T = g.T.TableSource in
    let i = c.loop-i.i in
    let n = 2 * length (g.W.Letters.letters c.args.word) in
    let inside : 2 * i + 2 ≤ n = omega (arith, c.loop-i-test.true, c.len-count.ensures) in
    selects_then T.lists T.reads g.F.Finds.most c.args.source.now c.loop-i.source _ (2 * i) 2 n (2 * i) 2 n c.loop-i.invariant.reads
    c.in-Absent.ensures.reads inside inside

pub returns-in-Absent-clause-labels : goal.returns-in-Absent-clause-labels
returns-in-Absent-clause-labels g c =
    let i = c.loop-i.i in
    let m = digit_count c.args.len + 1 in
    labels_most (g.L.Labels.seen c.args.labels.now) _ (i + 1) (length (g.W.Letters.letters c.args.word)) m
    (labels_more (g.L.Labels.seen c.args.labels.now) (g.L.Labels.seen c.loop-i.labels) _ i m c.loop-i.invariant.labels c.in-Absent.ensures.labels) (omega (arith, c.loop-i-test.true, c.len-count.ensures))

pub returns-in-Wrong-clause-reads : goal.returns-in-Wrong-clause-reads
returns-in-Wrong-clause-reads g c =
    let T = g.T.TableSource in
    let i = c.loop-i.i in
    let n = 2 * length (g.W.Letters.letters c.args.word) in
    let inside : 2 * i + 2 ≤ n = omega (arith, c.loop-i-test.true, c.len-count.ensures) in
    selects_then T.lists T.reads g.F.Finds.most c.args.source.now c.loop-i.source _ (2 * i) 2 n (2 * i) 2 n c.loop-i.invariant.reads
    c.in-Wrong.ensures.reads inside inside

pub returns-in-Wrong-clause-labels : goal.returns-in-Wrong-clause-labels
returns-in-Wrong-clause-labels g c =
    let i = c.loop-i.i in
    let m = digit_count c.args.len + 1 in
    labels_most (g.L.Labels.seen c.args.labels.now) _ (i + 1) (length (g.W.Letters.letters c.args.word)) m
    (labels_more (g.L.Labels.seen c.args.labels.now) (g.L.Labels.seen c.loop-i.labels) _ i m c.loop-i.invariant.labels c.in-Wrong.ensures.labels) (omega (arith, c.loop-i-test.true, c.len-count.ensures))

pub returns-clause-answer : goal.returns-clause-answer
returns-clause-answer g c = λ held finds rise.
    let T = g.T.TableSource in
    let n = c.args.len in
    let d = degrees_in n (T.lists c.args.source.now) in
    let L = g.L.Labels in
    let finds_in = g.F.Finds.finds c.args.finder.now in
    let seen = L.seen c.args.labels.now in
    let ls = L.listed seen.words seen.width n in
    let word = g.W.Letters.letters c.args.word in
    let all : c.loop-i.i ≡ c.len-count.result = omega (arith, c.loop-i-test.false, c.loop-i.auto.i-end) in (
      subst (λ (k : ℕ). Leads d ls (take k word) 0 c.loop-i.at) all (c.loop-i.invariant.down held finds rise),
      λ k more to v leads. absurd (omega (arith, more, to, c.len-count.ensures)),
    )
