-- The last 0 bit up to where the child's 1 bit would stand is that before the node's 1 bits, or one after them.
use Rattle.std.proofs.Common.{◌≡◌, ℕ, ◌+◌, false, inr, ◌∙◌, subst, arith}
use Rattle.bit_lists.proofs.BitLaws.{bits_are_counted}
use Rattle.bit_lists.specs.Count.{IsLastTo}
use Rattle.bitm_tables.specs.Tables.{bits_in}
use Rattle.louds.specs.Counted.{degrees_in}
use Rattle.louds.specs.Held.{zero_position}
use Rattle.louds.proofs.lemmas.ChildLemmas.{has_child, no_child, no_room}
use Rattle.louds.proofs.children.near_child_on.Goals as goal
use Rattle.louds.proofs.children.near_child_on.Goals.{After-near_last_zero_on}

pub returns-then-position-words_len-clause-answer : goal.returns-then-position-words_len-clause-answer
returns-then-position-words_len-clause-answer g c = λ h start.
    let lists = g.T.TableSource.lists c.args.source.now in
    inr
    (no_room (degrees_in c.args.len lists) c.args.len (bits_in lists) h.held c.args.node c.args.k c.requires.node
    (omega (arith, start, c.if-position-words_len.true, c.words_len.ensures, c.saturating_add-position.ensures, bits_are_counted lists.words)))

pub near_last_zero_on-requires-clause-inside : goal.near_last_zero_on-requires-clause-inside
near_last_zero_on-requires-clause-inside g c =
    omega (arith, c.if-position-words_len.false, c.words_len.ensures, bits_are_counted (g.T.TableSource.lists c.args.source.now).words)

-- the position has not been cut off
position : (g : _) (c : After-near_last_zero_on g) → c.saturating_add-position.result ≡ c.args.start + 1 + c.args.k
position g c =
    omega (
      arith,
      c.requires.near,
      c.requires.sized.short,
      c.if-position-words_len.false,
      c.words_len.ensures,
      c.saturating_add-position.ensures,
    )

pub returns-in-Some-clause-answer : goal.returns-in-Some-clause-answer
returns-in-Some-clause-answer g c = λ h start.
    let lists = g.T.TableSource.lists c.args.source.now in
    let d = degrees_in c.args.len lists in
    let b = bits_in lists in
    let at : c.saturating_add-position.result ≡ zero_position d c.args.node + 1 + c.args.k =
    omega (arith, start, position g (goal.at.returns-in-Some-clause-answer g c).After-near_last_zero_on) in
    inr
    (no_child d c.args.len b h.held c.args.node c.args.k c.requires.node c.in-Some.last
    (subst (λ (s : ℕ). IsLastTo b false s c.in-Some.last) at c.in-Some.ensures.zero) (omega (arith, start, c.if-last-start.true)))

pub returns-in-Some-2-clause-answer : goal.returns-in-Some-2-clause-answer
returns-in-Some-2-clause-answer g c = λ h start.
    let lists = g.T.TableSource.lists c.args.source.now in
    let d = degrees_in c.args.len lists in
    let b = bits_in lists in
    let at : c.saturating_add-position.result ≡ zero_position d c.args.node + 1 + c.args.k =
    omega (arith, start, position g (goal.at.returns-in-Some-2-clause-answer g c).After-near_last_zero_on) in
    let last : IsLastTo b false (zero_position d c.args.node + 1 + c.args.k) (zero_position d c.args.node) =
    subst (λ (p : ℕ). IsLastTo b false (zero_position d c.args.node + 1 + c.args.k) p) (c.if-last-start-2.true ∙ start)
    (subst (λ (s : ℕ). IsLastTo b false s c.in-Some.last) at c.in-Some.ensures.zero) in
    c.child_from.ensures.answer d h.held.count h.held.tree start (has_child d c.args.len b h.held c.args.node c.args.k c.requires.node last)
