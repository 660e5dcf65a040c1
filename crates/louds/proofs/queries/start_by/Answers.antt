-- The last zero up to the one of a child is the one before the ones of its parent, and it is near where few children are
-- between.
use Rattle.std.proofs.Common.{◌<◌, ℕ, ◌+◌, false, Some, List, length, take, get_or, refl, sym, ap, ◌∙◌, arith, subst}
use Rattle.std.specs.List.{sum}
use Rattle.bit_lists.proofs.BitLaws.{bits_are_counted}
use Rattle.bit_lists.specs.Count.{IsLastTo}
use Rattle.bitm_tables.specs.Tables.{bits_in, Lists}
use Rattle.louds.proofs.lemmas.HeldLemmas.{child_one, no_one_at_start, run_start}
use Rattle.louds.specs.Counted.{degrees_in, IsLouds}
use Rattle.louds.specs.Held.{zero_position}
use Rattle.louds.specs.Tree.{IsChild}
use Rattle.louds.proofs.queries.start_by.Goals as goal

child : (d : List ℕ) (i k : ℕ) → i < length d → k < get_or d i 0 → IsChild d i k (1 + sum (take i d) + k)
child d i k node some = record { node = node; some = some; number = refl }

pub returns-then-one-words_len-clause-position : goal.returns-then-one-words_len-clause-position
returns-then-one-words_len-clause-position g c = λ h f k some at.
    let lists = g.T.TableSource.lists c.args.source.now in
    let d = degrees_in c.args.len lists in
    let here = child d c.args.node k (omega (arith, h.held.count, c.requires.node)) some in
    absurd
    (omega (
      arith,
      at,
      (child_one d c.args.len (bits_in lists) h.held c.args.node k _ here).inside,
      c.if-one-words_len.true,
      c.words_len.ensures,
      bits_are_counted lists.words,
    ))

pub near_last_zero_on-requires-clause-inside : goal.near_last_zero_on-requires-clause-inside
near_last_zero_on-requires-clause-inside g c =
    omega (arith, c.if-one-words_len.false, c.words_len.ensures, bits_are_counted (g.T.TableSource.lists c.args.source.now).words)

pub returns-in-Some-clause-position : goal.returns-in-Some-clause-position
returns-in-Some-clause-position g c = λ h f k some at.
    let lists = g.T.TableSource.lists c.args.source.now in
    let d = degrees_in c.args.len lists in
    let b = bits_in lists in
    let P : ℕ → Type 0 = λ s. IsLastTo b false s c.in-Some.position in
    ap Some
    (run_start d c.args.len b c.args.node k _ c.in-Some.position h.held
    (child d c.args.node k (omega (arith, h.held.count, c.requires.node)) some) (subst P at c.in-Some.ensures.zero))

pub returns-in-None-clause-position : goal.returns-in-None-clause-position
returns-in-None-clause-position g c = λ h f k some at.
    let same = c.in-None.ensures.reads.same in
    c.far_zero_by.ensures.position (subst (IsLouds c.args.len) (sym same) h) (subst (g.F.Finds.finds c.args.finder.now) (sym same) f)
    ∙ ap (λ (ls : Lists). Some (zero_position (degrees_in c.args.len ls) c.args.node)) same

pub returns-in-None-clause-near : goal.returns-in-None-clause-near
returns-in-None-clause-near g c = λ h k some at few.
    let lists = g.T.TableSource.lists c.args.source.now in
    let d = degrees_in c.args.len lists in
    absurd
    (no_one_at_start d c.args.len (bits_in lists) c.args.node k _ h.held
    (child d c.args.node k (omega (arith, h.held.count, c.requires.node)) some)
    (c.in-None.ensures.zero (zero_position d c.args.node) (omega (arith, at)) (omega (arith, at, few))))
