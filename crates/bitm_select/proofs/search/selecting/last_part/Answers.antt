-- Each test halves what is left, and shows on which side the last part is if the tables are right.
use Rattle.std.proofs.Common.{◌≡◌, ℕ, ◌+◌, ◌*◌, ◌-◌, ◌/◌, ◌^◌, ◌<◌, ◌≤◌, length, refl, ap, sym, ◌∙◌, subst, arith, ◌⊎◌, inl, inr}
use Rattle.bit_lists.proofs.lemmas.CountLemmas.{ones_before_none}
use Rattle.bit_lists.proofs.lemmas.DigitLemmas.{digit_count-mono}
use Rattle.bit_lists.specs.Count.{ones_before}
use Rattle.bitm_select.specs.Search.{Between, sought_in}
use Rattle.bitm_tables.specs.Tables.{IsIndexed, Lists}
use Rattle.bitm_tables.specs.declared.source.counts.ReadCounts.{ReadCounts}
use Rattle.bitm_select.proofs.lemmas.SearchLemmas.{search_begins, halves, search_ends, halves_left}
use Rattle.bitm_select.proofs.lemmas.SoughtLemmas.{parts_rise}
use Rattle.bitm_select.proofs.search.selecting.last_part.Goals as goal
use Rattle.bitm_select.proofs.search.selecting.last_part.Goals.{After-before_part, then-before_part-rank, else-before_part-rank}

pub loop-left-init : goal.loop-left-init
loop-left-init g c =
    let lists = g.T.TableSource.lists c.args.source.now in
    let m = sought_in g.row.BIT lists.words in
    let n = length lists.upper in
    let count : ℕ → ℕ = λ k. ones_before m (k * 2 ^ 32) in
    let begins = search_begins count n c.args.rank c.requires (omega (arith, ones_before_none m)) in
    record {
      some = omega (arith, c.upper_len-left.ensures, c.requires);
      bound = omega (arith, c.upper_len-left.ensures);
      search = λ _. subst (Between count n c.args.rank 0) (sym c.upper_len-left.ensures) begins;
      upper = omega (arith, digit_count-mono (c.upper_len-left.result - 1) n (omega (arith, c.upper_len-left.ensures)));
      upper_kept = omega arith;
      lower = refl {A = ℕ};
      words = refl {A = ℕ};
      same = refl {A = Lists};
    }

count : (g : _) (c : After-before_part g) → IsIndexed (g.T.TableSource.lists c.args.source.now)
    → c.before_part.result
    ≡ ones_before (sought_in g.row.BIT (g.T.TableSource.lists c.args.source.now).words)
    ((c.loop-left.low + c.loop-left.left / 2) * 2 ^ 32)
count g c t =
    let at = (c.loop-left.low + c.loop-left.left / 2) * 2 ^ 32 in
    c.before_part.ensures.count (subst IsIndexed (sym c.loop-left.invariant.same) t)
    ∙ ap (λ (l : Lists). ones_before (sought_in g.row.BIT l.words) at) c.loop-left.invariant.same

pub loop-left-preserved : goal.loop-left-preserved
loop-left-preserved g c =
    let i = c.loop-left.invariant in
    let e = c.before_part.ensures in
    let lists = g.T.TableSource.lists c.args.source.now in
    let m = sought_in g.row.BIT lists.words in
    let n = length lists.upper in
    let low = c.loop-left.low in
    let left = c.loop-left.left in
    let d = (goal.at.loop-left-preserved g c).After-before_part in
    let counts : ℕ → ℕ = λ k. ones_before m (k * 2 ^ 32) in
    let side : ((c.before_part.result ≤ c.args.rank) × (c.if-before_part-rank.low ≡ low + left / 2)) ⊎ ((c.args.rank < c.before_part.result) × (c.if-before_part-rank.low ≡ low)) =
    elim c.if-before_part-rank.branch [
      | then-before_part-rank w ↦ inl (w.if-before_part-rank.true, w.low-is)
      | else-before_part-rank w ↦ inr (w.if-before_part-rank.false, w.low-is)
    ] in
    let search : IsIndexed lists → Between counts n c.args.rank c.if-before_part-rank.low (left - left / 2) = λ t.
    halves counts n c.args.rank low left c.if-before_part-rank.low c.before_part.result (i.search t) c.loop-left-test.true (count g d t) side
    (λ j k h _. parts_rise m j k h) in
    let bound : c.if-before_part-rank.low + (left - left / 2) ≤ n =
    elim c.if-before_part-rank.branch [
      | then-before_part-rank w ↦ omega (arith, w.low-is, i.bound)
      | else-before_part-rank w ↦ omega (arith, w.low-is, i.bound)
    ] in
    record {
      some = omega (arith, c.loop-left-test.true);
      bound = bound;
      search = search;
      upper = omega (arith, i.upper, ap (λ (r : ReadCounts). r.upper) e.counted, halves_left left c.loop-left-test.true);
      upper_kept = omega (arith, i.upper_kept, ap (λ (r : ReadCounts). r.upper) e.counted);
      lower = ap (λ (r : ReadCounts). r.lower) e.counted ∙ i.lower;
      words = ap (λ (r : ReadCounts). r.words) e.counted ∙ i.words;
      same = e.same ∙ i.same;
    }

pub returns-clause-last : goal.returns-clause-last
returns-clause-last g c = λ t.
    let lists = g.T.TableSource.lists c.args.source.now in
    let m = sought_in g.row.BIT lists.words in
    search_ends (λ k. ones_before m (k * 2 ^ 32)) (length lists.upper) c.args.rank c.loop-left.low c.loop-left.left
    (c.loop-left.invariant.search t) c.loop-left-test.false
