-- Two halvings leave 2^19 entries at most; below a guess one read more shows so, and in its window or above it two.
use Rattle.std.proofs.Common.{◌≡◌, ◌⊎◌, ℕ, ◌+◌, ◌*◌, ◌-◌, ◌/◌, ◌^◌, ◌<◌, ◌≤◌, ap, arith, inl, inr}
use Rattle.bitm_tables.specs.declared.source.counts.ReadCounts.{ReadCounts}
use Rattle.bit_lists.proofs.lemmas.DigitLemmas.{digit_count_most}
use Rattle.bitm_select.proofs.search.entry_range.narrow_by_guess.Goals as goal
use Rattle.bitm_select.proofs.search.entry_range.narrow_by_guess.Goals.{After-side_of-near}

-- either side of the middle has half of the range, rounded up
halved : (low left low' left' : ℕ) → ((low' ≡ low) × (left' ≡ left / 2)) ⊎ ((low' ≡ low + left / 2) × (left' ≡ left - left / 2))
    → left' * 2 ≤ left + 1
halved low left low' left' side = elim side [ inl down ↦ omega arith | inr up ↦ omega arith ]

-- a side whose begin is that of the range ends at the cut
down_side : (low left cut low' left' : ℕ) → ((low' ≡ low) × (left' ≡ cut)) ⊎ ((low' ≡ low + cut) × (left' ≡ left - cut))
    → 0 < cut → cut < left → left' < left
down_side low left cut low' left' side some inside = elim side [ inl down ↦ omega arith | inr up ↦ omega arith ]

-- a side that begins later has the entries from the cut on
up_side : (low left cut low' left' : ℕ) → ((low' ≡ low) × (left' ≡ cut)) ⊎ ((low' ≡ low + cut) × (left' ≡ left - cut))
    → (low' ≡ low → ⊥) → left' ≡ left - cut
up_side low left cut low' left' side other = elim side [ inl down ↦ absurd (other down.0) | inr up ↦ up.1 ]

quarter_few : (g : _) (c : After-side_of-near g) → c.side_of-quarter.result.left ≤ 2 ^ 19
quarter_few g c =
    let half = halved _ _ _ _ c.side_of-half.ensures.side in
    let quarter = halved _ _ _ _ c.side_of-quarter.ensures.side in
    omega (arith, c.requires.range.within, c.requires.first)

near_few : (g : _) (c : After-side_of-near g) → c.side_of-near.result.left < 2 ^ 19
near_few g c =
    let few = quarter_few g c in
    let down = down_side _ _ _ _ _ c.side_of-near.ensures.side c.guess-from.ensures.some (omega (arith, c.guess-from.ensures.fits)) in
    omega arith

three_reads : (g : _) (c : After-side_of-near g)
    → (g.T.TableSource.reads c.side_of-near.new.source).lower ≡ (g.T.TableSource.reads c.args.source.now).lower + 3
three_reads g c =
    omega (
      arith,
      ap (λ (r : ReadCounts). r.lower) c.side_of-half.ensures.counted,
      ap (λ (r : ReadCounts). r.lower) c.side_of-quarter.ensures.counted,
      ap (λ (r : ReadCounts). r.lower) c.side_of-near.ensures.counted,
    )

pub returns-then-near-quarter-clause-reads : goal.returns-then-near-quarter-clause-reads
returns-then-near-quarter-clause-reads g c =
    let d = (goal.at.returns-then-near-quarter-clause-reads g c).After-side_of-near in
    omega (arith, three_reads g d, digit_count_most 19 (c.side_of-near.result.left - 1) (omega (arith, near_few g d)))

pub returns-then-near-quarter-clause-reads_first : goal.returns-then-near-quarter-clause-reads_first
returns-then-near-quarter-clause-reads_first g c first =
    let d = (goal.at.returns-then-near-quarter-clause-reads_first g c).After-side_of-near in
    omega (arith, three_reads g d, digit_count_most 19 (c.side_of-near.result.left - 1) (omega (arith, near_few g d)))

pub returns-clause-reads : goal.returns-clause-reads
returns-clause-reads g c =
    let d = (goal.at.returns-clause-reads g c).After-side_of-near in
    let few = near_few g d in
    let up = up_side _ _ _ _ _ c.side_of-near.ensures.side c.if-near-quarter.false in
    let window : 32 < c.side_of-near.result.left = omega (arith, c.guess-from.ensures.fits) in
    let down = down_side _ _ _ _ _ c.side_of.ensures.side (omega arith) window in
    omega (
      arith,
      three_reads g d,
      ap (λ (r : ReadCounts). r.lower) c.side_of.ensures.counted,
      digit_count_most 19 (c.side_of.result.left - 1) (omega arith),
    )
