-- The labels of children rise, so at most one of them has the label, and it is the first that is not less.
use Rattle.std.proofs.Common.{◌≡◌, ◌-◌, get_or, ap, ◌∙◌, arith}
use Rattle.bit_lists.proofs.lemmas.DigitLemmas.{digit_count-mono}
use Rattle.louds.specs.Leading.{LabelReads}
use Rattle.louds.proofs.lemmas.LeadingLemmas.{grow, is_child, no_child}
use Rattle.louds.proofs.lemmas.ReadLemmas.{same_held, same_read}
use Rattle.louds.proofs.leading.child_among.Goals as goal

pub label_of-requires-clause-labels : goal.label_of-requires-clause-labels
label_of-requires-clause-labels g c =
    let L = g.L.Labels in
    let reads = c.first_from-low.ensures.reads in
    same_held L.fitting (L.seen c.args.labels.now) (L.seen c.first_from-low.new.labels) c.args.len reads.words reads.width c.requires.labels

pub returns-then-low-past-clause-answer : goal.returns-then-low-past-clause-answer
returns-then-low-past-clause-answer g c = λ d node rise are.
    let L = g.L.Labels in
    let old = L.seen c.args.labels.now in
    let ls = L.listed old.words old.width c.args.len in
    let found = c.first_from-low.ensures in
    no_child d ls node c.args.first c.args.past rise are c.args.label c.first_from-low.result found.from
    (found.answer (grow d ls node c.args.first c.args.past rise are)) (λ inside. absurd (omega (arith, inside, c.if-low-past.true)))

pub returns-then-low-past-clause-reads : goal.returns-then-low-past-clause-reads
returns-then-low-past-clause-reads g c =
    let reads = c.first_from-low.ensures.reads in
    record {
      at_most = omega (arith, reads.at_most, digit_count-mono (c.args.past - c.args.first) c.args.len (omega (arith, c.requires.inside)));
      words = reads.words;
      width = reads.width;
    }

pub returns-then-label_of-label-clause-answer : goal.returns-then-label_of-label-clause-answer
returns-then-label_of-label-clause-answer g c = λ d node rise are.
    let L = g.L.Labels in
    let n = c.args.len in
    let old = L.seen c.args.labels.now in
    let ls = L.listed old.words old.width n in
    let low = c.first_from-low.result in
    let reads = c.first_from-low.ensures.reads in
    let value : c.label_of.result ≡ get_or ls low 0 =
    c.label_of.ensures.label ∙ ap (λ xs. get_or xs low 0) (same_read L.listed old (L.seen c.first_from-low.new.labels) n reads.words reads.width) in
    is_child d ls node c.args.first c.args.past rise are c.args.label low c.first_from-low.ensures.from (omega (arith, c.if-low-past.false))
    (omega (arith, value, c.if-label_of-label.true))

pub returns-then-label_of-label-clause-reads : goal.returns-then-label_of-label-clause-reads
returns-then-label_of-label-clause-reads g c =
    let reads = c.first_from-low.ensures.reads in
    let counted = c.label_of.ensures.counted in
    record {
      at_most =
          omega (
            arith,
            reads.at_most,
            ap (λ (l : LabelReads). l.read) counted,
            digit_count-mono (c.args.past - c.args.first) c.args.len (omega (arith, c.requires.inside)),
          );
      words = ap (λ (l : LabelReads). l.words) counted ∙ reads.words;
      width = ap (λ (l : LabelReads). l.width) counted ∙ reads.width;
    }

pub returns-else-label_of-label-clause-answer : goal.returns-else-label_of-label-clause-answer
returns-else-label_of-label-clause-answer g c = λ d node rise are.
    let L = g.L.Labels in
    let n = c.args.len in
    let old = L.seen c.args.labels.now in
    let ls = L.listed old.words old.width n in
    let low = c.first_from-low.result in
    let found = c.first_from-low.ensures in
    let value : c.label_of.result ≡ get_or ls low 0 =
    c.label_of.ensures.label ∙ ap (λ xs. get_or xs low 0) (same_read L.listed old (L.seen c.first_from-low.new.labels) n found.reads.words found.reads.width) in
    no_child d ls node c.args.first c.args.past rise are c.args.label low found.from
    (found.answer (grow d ls node c.args.first c.args.past rise are)) (λ _ has. c.if-label_of-label.false (value ∙ has))

pub returns-else-label_of-label-clause-reads : goal.returns-else-label_of-label-clause-reads
returns-else-label_of-label-clause-reads g c =
    let reads = c.first_from-low.ensures.reads in
    let counted = c.label_of.ensures.counted in
    record {
      at_most =
          omega (
            arith,
            reads.at_most,
            ap (λ (l : LabelReads). l.read) counted,
            digit_count-mono (c.args.past - c.args.first) c.args.len (omega (arith, c.requires.inside)),
          );
      words = ap (λ (l : LabelReads). l.words) counted ∙ reads.words;
      width = ap (λ (l : LabelReads). l.width) counted ∙ reads.width;
    }
