-- One bit more: a 1 bit is that of one node more.
use Rattle.std.proofs.Common.{◌≡◌, ℕ, ◌+◌, ◌*◌, ◌<◌, ◌≤◌, List, true, length, get_or, sym, ap, ◌∙◌, refl, rules, subst, arith}
use Rattle.bit_lists.proofs.BitLaws.{bits_are_counted, none_before_the_first}
use Rattle.bit_lists.specs.Bits.{bits_of}
use Rattle.bit_lists.specs.Count.{ones_before}
use Rattle.louds.specs.Held.{degrees_of}
use Rattle.louds.specs.Leading.{LabelReads, ReadsLabels}
use Rattle.louds.specs.Tree.{IsNextSibling}
use Rattle.louds.proofs.lemmas.ReadLemmas.{same_read}
use Rattle.louds.proofs.lemmas.RiseLemmas.{node_inside, none_more, one_more, ones_all, rise_all, rise_more, rise_none, room, RiseTo}
use Rattle.louds.proofs.rising.labels_rise.Goals as goal
use Rattle.louds.proofs.rising.labels_rise.Goals.{then-get_bit+else-not-is_less_than_next, else-get_bit}

abbrev degrees : List ℕ → ℕ → List ℕ
degrees words n = degrees_of (bits_of words) n

-- the labels of one node more were read
more : (s t r : LabelReads) (node after : ℕ) → after ≡ node + 1 → ReadsLabels s t (2 * node) → ReadsLabels t r 2 → ReadsLabels s r (2 * after)
more s t r node after is first next = record {
  at_most = omega (arith, is, first.at_most, next.at_most);
  words = next.words ∙ first.words;
  width = next.width ∙ first.width;
}

most : (s t : LabelReads) (k n : ℕ) → ReadsLabels s t (2 * k) → k ≤ n → ReadsLabels s t (2 * n)
most s t k n first within = record { at_most = omega (arith, first.at_most, within); words = first.words; width = first.width }

pub loop-position-init : goal.loop-position-init
loop-position-init g c =
    let L = g.L.Labels in
    let seen = L.seen c.args.labels.now in
    record {
      ones = sym (none_before_the_first (bits_of c.args.bits.now) true);
      rise = rise_none (degrees c.args.bits.now c.args.len) (L.listed seen.words seen.width c.args.len);
      reads = record { at_most = omega arith; words = refl; width = refl };
    }

pub get_bit-requires : goal.get_bit-requires
get_bit-requires g c =
    let words = c.args.bits.now in
    omega (arith, room (degrees words c.args.len) c.args.len (bits_of words) c.requires.held, bits_are_counted words, c.loop-position-test.true)

pub returns-then-not-is_less_than_next-clause-reads : goal.returns-then-not-is_less_than_next-clause-reads
returns-then-not-is_less_than_next-clause-reads g c =
    let L = g.L.Labels in
    let words = c.args.bits.now in
    let inside =
    node_inside (degrees words c.args.len) c.args.len (bits_of words) c.requires.held c.loop-position.position c.loop-position.node
    (omega (arith, c.loop-position-test.true)) (sym c.if-get_bit.ensures) c.loop-position.invariant.ones in
    most (L.seen c.args.labels.now) _ (c.loop-position.node + 1) c.args.len
    (more (L.seen c.args.labels.now) (L.seen c.loop-position.labels) _ c.loop-position.node _ refl c.loop-position.invariant.reads c.is_less_than_next.ensures.reads)
    (omega (arith, inside))

pub overflow_add-node : goal.overflow_add-node
overflow_add-node g c =
    let words = c.args.bits.now in
    let inside =
    node_inside (degrees words c.args.len) c.args.len (bits_of words) c.requires.held c.loop-position.position c.loop-position.node
    (omega (arith, c.loop-position-test.true)) (sym c.if-get_bit.ensures) c.loop-position.invariant.ones in
    record { fits = omega (arith, inside, c.requires.held.short) }

pub loop-position-preserved : goal.loop-position-preserved
loop-position-preserved g c =
    let L = g.L.Labels in
    let words = c.args.bits.now in
    let n = c.args.len in
    let d = degrees words n in
    let seen = L.seen c.args.labels.now in
    let ls = L.listed seen.words seen.width n in
    let p = c.loop-position.position in
    let node = c.loop-position.node in
    let inv = c.loop-position.invariant in
    let inside : p < length (bits_of words) = omega (arith, room d n (bits_of words) c.requires.held, c.loop-position-test.true) in
    elim c.if-get_bit.branch [
      | then-get_bit+else-not-is_less_than_next w ↦
          let Less : List ℕ → Type 0 = λ xs. IsNextSibling d node (node + 1) → get_or xs node 0 < get_or xs (node + 1) 0 in
          let here : Less ls =
          subst Less (same_read L.listed seen (L.seen c.loop-position.labels) n inv.reads.words inv.reads.width)
          (w.if-not-is_less_than_next.ensures.rise.0 (search rules)) in
          record {
            ones = omega (arith, w.node-is, inv.ones, one_more (bits_of words) p inside (sym w.if-get_bit.ensures));
            rise = subst (RiseTo d ls) (sym w.node-is) (rise_more d ls node inv.rise here);
            reads =
                subst (λ x. ReadsLabels seen (L.seen x) (2 * c.if-get_bit.node)) (sym w.labels-is)
                (more seen (L.seen c.loop-position.labels) _ node c.if-get_bit.node w.node-is inv.reads w.is_less_than_next.ensures.reads);
          }
      | else-get_bit w ↦ record {
        ones = omega (arith, w.node-is, inv.ones, none_more (bits_of words) p inside (sym w.if-get_bit.ensures));
        rise = subst (RiseTo d ls) (sym w.node-is) inv.rise;
        reads =
            subst (λ x. ReadsLabels seen (L.seen x) (2 * c.if-get_bit.node)) (sym w.labels-is)
            (subst (λ (k : ℕ). ReadsLabels seen (L.seen c.loop-position.labels) (2 * k)) (sym w.node-is) inv.reads);
      }
    ]

pub returns-clause-rise : goal.returns-clause-rise
returns-clause-rise g c =
    let L = g.L.Labels in
    let words = c.args.bits.now in
    let n = c.args.len in
    let d = degrees words n in
    let seen = L.seen c.args.labels.now in
    let ls = L.listed seen.words seen.width n in
    let end : c.loop-position.position ≡ 2 * n = omega (arith, c.loop-position-test.false, c.loop-position.auto.position-end) in
    let all : c.loop-position.node ≡ length d =
    omega (arith, c.loop-position.invariant.ones, ap (ones_before (bits_of words)) end, ones_all d n (bits_of words) c.requires.held, c.requires.held.count) in
    ((λ _. rise_all d ls c.loop-position.node c.requires.held.tree all c.loop-position.invariant.rise), (λ _. refl))

pub returns-clause-reads : goal.returns-clause-reads
returns-clause-reads g c =
    let words = c.args.bits.now in
    let n = c.args.len in
    let end : c.loop-position.position ≡ 2 * n = omega (arith, c.loop-position-test.false, c.loop-position.auto.position-end) in
    let all : c.loop-position.node ≤ n =
    omega (arith, c.loop-position.invariant.ones, ap (ones_before (bits_of words)) end, ones_all (degrees words n) n (bits_of words) c.requires.held) in
    most (g.L.Labels.seen c.args.labels.now) _ c.loop-position.node n c.loop-position.invariant.reads all
