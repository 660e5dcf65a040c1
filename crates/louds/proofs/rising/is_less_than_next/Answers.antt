-- A 1 bit next to that of a node is that of its next sibling.
use Rattle.std.proofs.Common.{◌≡◌, ◌+◌, ℕ, List, true, false, get_or, sym, ap, ◌∙◌, refl, arith}
use Rattle.bit_lists.proofs.BitLaws.{bits_are_counted}
use Rattle.bit_lists.specs.Bits.{bits_of}
use Rattle.louds.specs.Held.{degrees_of}
use Rattle.louds.specs.Leading.{LabelReads}
use Rattle.louds.proofs.lemmas.ReadLemmas.{same_read}
use Rattle.louds.proofs.lemmas.RiseLemmas.{is_next, next_inside, no_next, node_inside, room}
use Rattle.louds.proofs.rising.is_less_than_next.Goals as goal

abbrev degrees : List ℕ → ℕ → List ℕ
degrees words n = degrees_of (bits_of words) n

pub get_bit-requires : goal.get_bit-requires
get_bit-requires g c =
    let words = c.args.bits.now in
    omega (arith, room (degrees words c.args.len) c.args.len (bits_of words) c.requires.held, bits_are_counted words, c.requires.inside)

pub returns-then-not-get_bit-clause-rise : goal.returns-then-not-get_bit-clause-rise
returns-then-not-get_bit-clause-rise g c =
    let words = c.args.bits.now in (
      (λ _ next.
          absurd
          (no_next (degrees words c.args.len) c.args.len (bits_of words) c.requires.held c.args.position c.args.node c.requires.inside c.requires.is_one
          c.requires.before (sym c.if-not-get_bit.ensures) next)),
      (λ _. refl),
    )

pub label_of-own-requires-clause-inside : goal.label_of-own-requires-clause-inside
label_of-own-requires-clause-inside g c =
    let words = c.args.bits.now in
    node_inside (degrees words c.args.len) c.args.len (bits_of words) c.requires.held c.args.position c.args.node c.requires.inside c.requires.is_one
    c.requires.before

pub overflow_add-node : goal.overflow_add-node
overflow_add-node g c =
    let words = c.args.bits.now in
    let inside =
    node_inside (degrees words c.args.len) c.args.len (bits_of words) c.requires.held c.args.position c.args.node c.requires.inside c.requires.is_one
    c.requires.before in
    record { fits = omega (arith, inside, c.requires.held.short) }

pub label_of-next-requires-clause-inside : goal.label_of-next-requires-clause-inside
label_of-next-requires-clause-inside g c =
    let words = c.args.bits.now in
    next_inside (degrees words c.args.len) c.args.len (bits_of words) c.requires.held c.args.position c.args.node c.requires.inside c.requires.is_one
    c.requires.before (sym c.if-not-get_bit.ensures)

pub returns-clause-rise : goal.returns-clause-rise
returns-clause-rise g c =
    let L = g.L.Labels in
    let n = c.args.len in
    let node = c.args.node in
    let words = c.args.bits.now in
    let seen = L.seen c.args.labels.now in
    let ls = L.listed seen.words seen.width n in
    let counted = c.label_of-own.ensures.counted in
    let after : c.label_of-next.result ≡ get_or ls (node + 1) 0 =
    c.label_of-next.ensures.label
    ∙ ap (λ xs. get_or xs (node + 1) 0)
    (same_read L.listed seen (L.seen c.label_of-own.new.self) n (ap (λ (l : LabelReads). l.words) counted) (ap (λ (l : LabelReads). l.width) counted)) in
    let next =
    is_next (degrees words n) n (bits_of words) c.requires.held c.args.position node c.requires.inside c.requires.is_one
    c.requires.before (sym c.if-not-get_bit.ensures) in (
      (λ no. let e : false ≡ true = no in cc),
      (λ less. absurd (omega (arith, less next, c.label_of-own.ensures.label, after, c.if-own-next.false))),
    )
