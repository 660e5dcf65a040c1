-- Each number is that of the next one, and less, up to the first that is not.
use Rattle.std.proofs.Common.{◌≡◌, ℕ, ◌+◌, ◌<◌, ◌≤◌, List, length, get_or, true, sym, ap, subst, ◌∙◌, arith, ⊎_elim}
use Rattle.std.proofs.lemmas.Bool.{cases_lt}
use Rattle.bit_lists.proofs.BitLaws.{bits_are_counted}
use Rattle.bit_lists.specs.Bits.{IsShort}
use Rattle.bit_lists.specs.Count.{IsFirstFrom, Picks}
use Rattle.bitm_tables.specs.Tables.{bits_in, Lists}
use Rattle.elias_fano.specs.SequenceParts.{parts_with, Holds}
use Rattle.elias_fano.specs.Parts.{HasFragment, HasOneAt}
use Rattle.postings.specs.Spot.{IsBehind}
use Rattle.postings.proofs.SpotLemmas.{all_less, first_picked, fragment_of, ones_after}
use Rattle.postings.proofs.near.walk_on.Goals as goal
use Rattle.postings.proofs.near.walk_on.Goals.{In-Some, After-item_at_one-number}

pub overflow_add-at : goal.overflow_add-at
overflow_add-at g c = omega (arith, c.requires.within, c.requires.fragments.short)

pub returns-then-at-n-clause-near : goal.returns-then-at-n-clause-near
returns-then-at-n-clause-near g c = λ xs h begin.
    let i = c.loop-step.invariant.behind xs h begin in
    all_less xs c.args.v (c.args.at + c.loop-step.step) (omega (arith, h.are.count, c.if-at-n.true)) i.less

pub next_one_on-requires : goal.next_one_on-requires
next_one_on-requires g c = subst (λ (l : Lists). IsShort l.words) (sym c.loop-step.invariant.reads.same) c.requires.short

-- the one that was found is the number's
picked : (g : _) (c : In-Some g) (xs : List ℕ) → Holds xs (parts_with c.args.n c.args.low.now (g.T.TableSource.lists c.args.source.now))
    → IsBehind xs (g.T.TableSource.lists c.args.source.now).words c.args.v c.args.at c.args.position
    → Picks (bits_in (g.T.TableSource.lists c.args.source.now)) true (c.args.at + c.loop-step.step) c.in-Some.one
picked g c xs h begin =
    let first = subst (λ (l : Lists). IsFirstFrom (bits_in l) true c.loop-step.position c.in-Some.one) c.loop-step.invariant.reads.same c.in-Some.ensures.first in
    first_picked (bits_in (g.T.TableSource.lists c.args.source.now)) c.loop-step.position c.in-Some.one _ first (c.loop-step.invariant.behind xs h begin).before

pub item_at_one-number-requires : goal.item_at_one-number-requires
item_at_one-number-requires g c =
    let at = c.args.at + c.loop-step.step in
    let f = c.loop-step.invariant.fragments in
    subst (λ (ws : List ℕ). HasFragment ws at c.loop-step.low.width) (sym f.words)
    (subst (λ (w : ℕ). HasFragment c.args.low.now.words at w) (sym f.width) (fragment_of c.args.low.now c.args.n at c.requires.fragments c.if-at-n.false))

-- and the number is right
number : (g : _) (c : After-item_at_one-number g) (p : In-Some g) (xs : List ℕ) → Holds xs (parts_with c.args.n c.args.low.now (g.T.TableSource.lists c.args.source.now))
    → Picks (bits_in (g.T.TableSource.lists c.args.source.now)) true (c.args.at + c.loop-step.step) c.in-Some.one
    → c.item_at_one-number.result ≡ get_or xs (c.args.at + c.loop-step.step) 0
number g c p xs h one =
    let at = c.args.at + c.loop-step.step in
    let f = c.loop-step.invariant.fragments in
    let upper = (g.T.TableSource.lists c.args.source.now).words in
    let here : HasOneAt xs c.args.n c.args.low.now.width c.args.low.now.words upper at c.in-Some.one =
    record { parts = h.are; inside = c.if-at-n.false; one = one } in
    c.item_at_one-number.ensures.item xs c.args.n upper
    (subst (λ (ws : List ℕ). HasOneAt xs c.args.n c.loop-step.low.width ws upper at c.in-Some.one) (sym f.words)
    (subst (λ (w : ℕ). HasOneAt xs c.args.n w c.args.low.now.words upper at c.in-Some.one) (sym f.width) here))

pub returns-then-number-v-clause-near : goal.returns-then-number-v-clause-near
returns-then-number-v-clause-near g c = λ xs h begin.
    let w = goal.at.returns-then-number-v-clause-near g c in
    let one = picked g w.In-Some xs h begin in
    let is = number g w.After-item_at_one-number w.In-Some xs h one in
    let inside : c.args.at + c.loop-step.step < length xs = omega (arith, h.are.count, c.if-at-n.false) in (
      record { inside = inside; one = one; number = is },
      record { inside = inside; at_least = omega (arith, is, c.if-number-v.true); before = (c.loop-step.invariant.behind xs h begin).less },
    )

pub overflow_add-position : goal.overflow_add-position
overflow_add-position g c =
    let first = subst (λ (l : Lists). IsFirstFrom (bits_in l) true c.loop-step.position c.in-Some.one) c.loop-step.invariant.reads.same c.in-Some.ensures.first in
    omega (arith, first.inside, bits_are_counted (g.T.TableSource.lists c.args.source.now).words, c.requires.short)

pub loop-step-preserved : goal.loop-step-preserved
loop-step-preserved g c =
    let w = goal.at.loop-step-preserved g c in
    let i = c.loop-step.invariant in
    let read = c.in-Some.ensures.reads in
    let f = c.item_at_one-number.ensures.fragments in
    let next : c.args.at + c.loop-step.step + 1 ≡ c.args.at + (c.loop-step.step + 1) = omega arith in
    record {
      reads = record {
        at_most = record {
          upper = omega (arith, i.reads.at_most.upper, read.at_most.upper);
          lower = omega (arith, i.reads.at_most.lower, read.at_most.lower);
          words = omega (arith, i.reads.at_most.words, read.at_most.words);
          upper_kept = omega (arith, i.reads.at_most.upper_kept, read.at_most.upper_kept);
          lower_kept = omega (arith, i.reads.at_most.lower_kept, read.at_most.lower_kept);
          words_kept = omega (arith, i.reads.at_most.words_kept, read.at_most.words_kept);
        };
        same = read.same ∙ i.reads.same;
      };
      fragments = record {
        at_most = omega (arith, i.fragments.at_most, f.at_most);
        words = f.words ∙ i.fragments.words;
        width = f.width ∙ i.fragments.width;
      };
      behind = λ xs h begin.
          let one = picked g w.In-Some xs h begin in
          let is = number g w.After-item_at_one-number w.In-Some xs h one in
          let was = i.behind xs h begin in
          record {
            count = omega (arith, h.are.count, c.if-at-n.false);
            before = ones_after (bits_in (g.T.TableSource.lists c.args.source.now)) _ c.in-Some.one one ∙ next;
            less = λ j l. ⊎_elim
                (λ (before : j < c.args.at + c.loop-step.step). was.less j before)
                (λ (past : c.args.at + c.loop-step.step ≤ j).
                let e : c.args.at + c.loop-step.step ≡ j = omega (arith, l, past) in
                omega (arith, ap (λ (k : ℕ). get_or xs k 0) e, is, c.if-number-v.false))
                (cases_lt j (c.args.at + c.loop-step.step));
          };
    }
