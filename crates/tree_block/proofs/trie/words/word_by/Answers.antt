-- The label of the node at hand stands before the word so far, and leads there from the parent.
use Rattle.std.proofs.Common.{◌≡◌, ℕ, ◌+◌, ◌-◌, ◌<◌, ◌≤◌, [], ◌∷◌, length, take, drop, get_or, refl, sym, ap, ◌∙◌, subst, arith}
use Rattle.std.proofs.lemmas.List.{drop_all, take-take}
use Rattle.bitm_tables.specs.Tables.{HasSizes, Lists}
use Rattle.louds.specs.Counted.{degrees_in, IsLouds}
use Rattle.louds.specs.Labels.{Leads}
use Rattle.louds.specs.Tree.{IsChild}
use Rattle.louds.proofs.lemmas.ReadLemmas.{same_held, same_read, selects_nothing, selects_then, selects_within}
use Rattle.louds.specs.Leading.{LabelReads}
use Rattle.tree_block.specs.Labels.{labels_of, HasLabels}
use Rattle.tree_block.proofs.trie.words.word_by.Goals as goal

-- what a parent that was found says, in the source that was given
abbrev HasParent : (Lists → Type 0) → ℕ → ℕ → ℕ → Lists → Type 0
HasParent finds n at parent lists = IsLouds n lists → finds lists → (parent < at) × ((k : ℕ) × IsChild (degrees_in n lists) parent k at)

pub parent_by-requires : goal.parent_by-requires
parent_by-requires g c = subst (λ (m : Lists). HasSizes m) (sym c.loop-at.invariant.reads.same) c.requires.sized

pub label-requires-clause-labels : goal.label-requires-clause-labels
label-requires-clause-labels g c =
    let i = c.loop-at.invariant.labels in
    same_held HasLabels c.args.labels.now c.loop-at.labels c.args.len i.words i.width c.requires.labels

pub loop-at-init : goal.loop-at-init
loop-at-init g c =
    let T = g.T.TableSource in
    let out = c.args.out.now in record {
      inside = omega (arith, c.if-node-len.false);
      few = omega arith;
      room = refl;
      front = λ _. refl;
      word = λ _ _. ([], refl, refl, λ _. drop_all (length out - 0) out (omega arith));
      reads = selects_nothing T.lists T.reads g.F.Finds.most c.args.source.now 0 0;
      labels = record { at_most = omega arith; words = refl; width = refl };
    }

pub loop-at-preserved : goal.loop-at-preserved
loop-at-preserved g c =
    let T = g.T.TableSource in
    let n = c.args.len in
    let old = T.lists c.args.source.now in
    let d = degrees_in n old in
    let ls = labels_of c.args.labels.now.words c.args.labels.now.width n in
    let out = c.args.out.now in
    let at = c.loop-at.at in
    let count = c.loop-at.count in
    let parent = c.in-Found.parent in
    let inv = c.loop-at.invariant in
    let wrote = c.write_before.ensures in
    let counted = c.label.ensures.counted in
    let less : count + 1 ≤ length out → count < length c.loop-at.out = λ within. omega (arith, inv.room, within) in
    let label : c.label.result ≡ get_or ls at 0 =
    c.label.ensures.label ∙ ap (λ xs. get_or xs at 0) (same_read labels_of c.args.labels.now c.loop-at.labels n inv.labels.words inv.labels.width) in
    let finds = g.F.Finds.finds c.args.finder.now in
    let has : HasParent finds n at parent old = subst (λ (m : Lists). HasParent finds n at parent m) inv.reads.same c.in-Found.ensures.answer in
    record {
      inside = omega (arith, c.in-Found.ensures.inside.0, inv.inside);
      few = omega (arith, c.in-Found.ensures.inside.0, inv.few);
      room = wrote.len ∙ inv.room;
      front = λ within.
          let all = length out - (count + 1) in
          let own = ap (λ k. take (k - (count + 1)) c.write_before.new.out) (sym inv.room) ∙ wrote.front (less within)
          ∙ ap (λ k. take (k - (count + 1)) c.loop-at.out) inv.room in
          own
          ∙ sym (take-take all (length out - count) c.loop-at.out (omega arith))
          ∙ ap (take all) (inv.front (omega (arith, within)))
          ∙ take-take all (length out - count) out (omega arith);
      word = λ held found.
          let before = inv.word held found in
          let up = has held found in (
            c.label.result ∷ before.0,
            omega (arith, before.1),
            (at, (up.1, sym label), before.2),
            λ within.
                ap (λ k. drop (k - (count + 1)) c.write_before.new.out) (sym inv.room)
                ∙ wrote.back (less within)
                ∙ ap (λ k. c.label.result ∷ drop (k - count) c.loop-at.out) inv.room
                ∙ ap (λ w. c.label.result ∷ w) (before.3 (omega (arith, within))),
          );
      reads =
          selects_then T.lists T.reads g.F.Finds.most c.args.source.now c.loop-at.source _ count 1 (count + 1) 0 0 0 inv.reads c.in-Found.ensures.reads
          (omega arith) (omega arith);
      labels = record {
        at_most = omega (arith, inv.labels.at_most, ap (λ (l : LabelReads). l.read) counted);
        words = ap (λ (l : LabelReads). l.words) counted ∙ inv.labels.words;
        width = ap (λ (l : LabelReads). l.width) counted ∙ inv.labels.width;
      };
    }

pub returns-in-Wrong-clause-answer : goal.returns-in-Wrong-clause-answer
returns-in-Wrong-clause-answer g c = λ held found.
    let same = sym c.loop-at.invariant.reads.same in
    c.in-Wrong.ensures.answer (subst (λ (m : Lists). IsLouds c.args.len m) same held) (subst (g.F.Finds.finds c.args.finder.now) same found)

pub returns-in-Wrong-clause-reads : goal.returns-in-Wrong-clause-reads
returns-in-Wrong-clause-reads g c =
    let T = g.T.TableSource in
    let inv = c.loop-at.invariant in
    selects_then T.lists T.reads g.F.Finds.most c.args.source.now c.loop-at.source _ c.loop-at.count 1 c.args.node 0 0 0 inv.reads
    c.in-Wrong.ensures.reads (omega (arith, inv.few, c.loop-at-test.true)) (omega arith)

pub returns-in-Absent-clause-reads : goal.returns-in-Absent-clause-reads
returns-in-Absent-clause-reads g c =
    let T = g.T.TableSource in
    let inv = c.loop-at.invariant in
    selects_then T.lists T.reads g.F.Finds.most c.args.source.now c.loop-at.source _ c.loop-at.count 1 c.args.node 0 0 0 inv.reads
    c.in-Absent.ensures.reads (omega (arith, inv.few, c.loop-at-test.true)) (omega arith)

pub returns-clause-answer : goal.returns-clause-answer
returns-clause-answer g c = λ held found.
    let T = g.T.TableSource in
    let n = c.args.len in
    let d = degrees_in n (T.lists c.args.source.now) in
    let ls = labels_of c.args.labels.now.words c.args.labels.now.width n in
    let inv = c.loop-at.invariant in
    let word = inv.word held found in
    let root : c.loop-at.at ≡ 0 = omega (arith, c.loop-at-test.false) in (
      word.0,
      word.1,
      subst (λ (v : ℕ). Leads d ls word.0 v c.args.node) root word.2,
      λ within.
          ap (λ k. drop (k - c.loop-at.count) c.loop-at.out) inv.room ∙ word.3 (omega (arith, within, inv.room)),
    )

pub returns-clause-reads : goal.returns-clause-reads
returns-clause-reads g c =
    let T = g.T.TableSource in
    selects_within T.lists T.reads g.F.Finds.most c.args.source.now c.loop-at.source c.loop-at.count c.args.node 0 0 c.loop-at.invariant.reads
    (omega (arith, c.loop-at.invariant.few)) (omega arith)
