-- The spot that was found is of the same sequence.
use Rattle.std.proofs.Common.{◌≡◌, ℕ, List, Option, drop, sym, ap, subst, ◌∙◌, arith}
use Rattle.bit_lists.specs.Bits.{digit_count}
use Rattle.bitm_tables.specs.declared.answer.Answer.{Answer}
use Rattle.elias_fano.specs.Low.{sharing, Lows}
use Rattle.elias_fano.specs.Parts.{items_of}
use Rattle.postings.specs.Held.{IsSpotHeld, SeekerValue}
use Rattle.postings.specs.Moves.{IsAnswered}
use Rattle.postings.specs.Next.{IsNextAtLeast, IsReached}
use Rattle.postings.proofs.HeldLemmas.{reaching, same_parts}
use Rattle.postings.proofs.PartLemmas.{has_lengths}
use Rattle.postings.proofs.sequence.Seeker.seek.Goals as goal
use Rattle.postings.proofs.sequence.Seeker.seek.Goals.{in-Absent, in-Found}

pub total_next_on-requires-clause-lengths : goal.total_next_on-requires-clause-lengths
total_next_on-requires-clause-lengths c =
    let s = c.self.inside in
    has_lengths (items_of s.len s.low.width s.low.words s.source.lists.words) s.len s.low.width s.low.words s.source.lists.words c.self.invariant.parts.are

pub unreachable-requires : goal.unreachable-requires
unreachable-requires c =
    let s = c.self.inside in
    let n = s.len in
    let w = s.low.width in
    let ws = s.low.words in
    let l = s.source.lists in
    let xs = items_of n w ws l.words in
    let h = c.self.invariant in
    (c.in-Wrong.ensures.next xs h.parts).next h.here

pub returns-clause-nothing : goal.returns-clause-nothing
returns-clause-nothing c = λ reached.
    let s = c.self.inside in
    let n = s.len in
    let w = s.low.width in
    let ws = s.low.words in
    let l = s.source.lists in
    let xs = items_of n w ws l.words in
    let h = c.self.invariant in
    let left : drop s.spot.at xs ≡ c.args.self.now.left = ap (λ (v : SeekerValue). v.left) c.self.view_is in
    let none = c.total_next_on.ensures.nothing (reaching n w ws l s.spot c.args.v h (subst (λ (o : List ℕ). IsReached o c.args.v) (sym left) reached)) in
    (none.0 ∙ ap (λ (v : SeekerValue). v.reads) c.self.view_is, ap (λ (low : Lows). low.read) none.1 ∙ ap (λ (v : SeekerValue). v.fragments) c.self.view_is)

pub returns-clause-fragments : goal.returns-clause-fragments
returns-clause-fragments c =
    let s = c.self.inside in
    let n = s.len in
    let w = s.low.width in
    let ws = s.low.words in
    let l = s.source.lists in
    let xs = items_of n w ws l.words in
    let h = c.self.invariant in
    let few = c.total_next_on.ensures.shared xs h.parts in
    let is : digit_count (sharing xs w c.args.v) ≡ digit_count (sharing c.args.self.now.items c.args.self.now.width c.args.v) =
    ap (λ (v : SeekerValue). digit_count (sharing v.items v.width c.args.v)) c.self.view_is in
    omega (arith, few.at_most, is, ap (λ (v : SeekerValue). v.fragments) c.self.view_is)

pub invariant_of-self : goal.invariant_of-self
invariant_of-self c =
    let s = c.self.inside in
    let xs = items_of s.len s.low.width s.low.words s.source.lists.words in
    let h = c.self.invariant in
    let read = c.total_next_on.ensures.shared xs h.parts in
    same_parts (λ w ws l. IsSpotHeld s.len w ws l c.total_next_on.new.spot) s.low c.total_next_on.new.low s.source.lists
    c.total_next_on.new.source.lists read.words read.width c.total_next_on.ensures.reads.same
    record { parts = h.parts; sizes = h.sizes; here = (c.total_next_on.ensures.next xs h.parts).here h.here }

pub returns-clause-next : goal.returns-clause-next
returns-clause-next c =
    let s = c.self.inside in
    let xs = items_of s.len s.low.width s.low.words s.source.lists.words in
    let h = c.self.invariant in
    let v = c.args.v in
    let read = c.total_next_on.ensures.shared xs h.parts in
    let left : drop s.spot.at xs ≡ c.args.self.now.left = ap (λ (w : SeekerValue). w.left) c.self.view_is in
    let after = drop c.total_next_on.new.spot.at xs in
    let A : Answer ℕ → Type 0 = λ a. IsAnswered (drop s.spot.at xs) v a after in
    let O : Option ℕ → Type 0 = λ o. IsNextAtLeast (drop s.spot.at xs) v o after in
    let claimed = (c.total_next_on.ensures.next xs h.parts).next h.here in
    let next : O c.match-total_next_on.result =
    elim c.match-total_next_on.branch [
      | in-Found w ↦ subst O (sym w.result-is) (subst A w.in-Found.is claimed)
      | in-Absent w ↦ subst O (sym w.result-is) (subst A w.in-Absent.is claimed)
    ] in
    same_parts
    (λ w ws l. IsNextAtLeast c.args.self.now.left v c.match-total_next_on.result
    (drop c.total_next_on.new.spot.at (items_of s.len w ws l.words)))
    s.low c.total_next_on.new.low s.source.lists c.total_next_on.new.source.lists read.words read.width c.total_next_on.ensures.reads.same
    (subst (λ (o : List ℕ). IsNextAtLeast o v c.match-total_next_on.result after) left next)
