-- The first zero behind that before a node's ones is that after them.
use Rattle.std.proofs.Common.{◌≡◌, ◌+◌, ◌≤◌, ℕ, false, Some, List, length, take, take_all, sym, ap, ◌∙◌, arith, subst}
use Rattle.bit_lists.specs.Bits.{bits_of}
use Rattle.bit_lists.specs.Count.{IsFirstFrom}
use Rattle.bitm_tables.specs.Tables.{Lists}
use Rattle.louds.specs.Counted.{degrees_in, IsLouds}
use Rattle.louds.specs.Held.{zero_position}
use Rattle.louds.proofs.lemmas.HeldLemmas.{run_end, zero_small}
use Rattle.louds.proofs.children.end_after_by.Goals as goal

pub returns-in-Some-clause-position : goal.returns-in-Some-clause-position
returns-in-Some-clause-position g c = λ h f start.
    let lists = g.T.TableSource.lists c.args.source.now in
    let d = degrees_in c.args.len lists in
    let ws = lists.words in
    let all : length ws ≤ length ws = omega arith in
    let small = zero_small _ _ _ h.held c.args.node (omega (arith, c.requires.node)) in
    let next : c.saturating_add.result ≡ zero_position d c.args.node + 1 = omega (arith, start, small, c.saturating_add.ensures) in
    let P : List ℕ → Type 0 = λ xs. IsFirstFrom (bits_of xs) false c.saturating_add.result c.in-Some.end in
    let Q : ℕ → Type 0 = λ s. IsFirstFrom (bits_of (take (length ws) ws)) false s c.in-Some.end in
    ap Some (run_end d c.args.len ws (length ws) c.args.node c.in-Some.end h.held c.requires.node
    (subst Q next (subst P (sym (take_all (length ws) ws all)) c.in-Some.ensures.zero)))

pub returns-in-None-clause-position : goal.returns-in-None-clause-position
returns-in-None-clause-position g c = λ h f start.
    let same = c.in-None.ensures.reads.same in
    c.far_zero_by.ensures.position (subst (IsLouds c.args.len) (sym same) h) (subst (g.F.Finds.finds c.args.finder.now) (sym same) f)
    ∙ ap (λ (ls : Lists). Some (zero_position (degrees_in c.args.len ls) (c.args.node + 1))) same
