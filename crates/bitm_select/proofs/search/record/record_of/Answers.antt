-- The three counts rise, so the record is the number of those that are at most the rank.
use Rattle.std.proofs.Common.{◌≡◌, ℕ, zero, suc, ◌+◌, ◌-◌, ◌*◌, ◌/◌, ◌%◌, ◌^◌, ◌<◌, ◌≤◌, refl, arith}
use Rattle.std.proofs.lemmas.Nat.{and_mask}
use Rattle.bitm_tables.specs.Entry.{field_1, field_2, field_3, record_field}
use Rattle.bitm_select.proofs.lemmas.SoughtLemmas.{record_chosen}
use Rattle.bitm_select.proofs.search.record.record_of.Goals as goal
use Rattle.bitm_select.proofs.search.record.record_of.Goals.{After-is_at_most-3}

-- two shifts take the field of a record
shifted : (e k : ℕ) → e < 2 ^ 64 → k < 4 → e / 2 ^ (11 * (3 - k)) / 2 ^ 32 % 2 ^ 11 ≡ record_field e k
shifted e zero h l = omega arith
shifted e (suc zero) h l = omega arith
shifted e (suc (suc zero)) h l = omega arith
shifted e (suc (suc (suc zero))) h l = omega arith
shifted e (suc (suc (suc (suc k)))) h l = absurd (omega arith)

abbrev position : After-is_at_most-3 → ℕ
position c = c.is_at_most.result + c.is_at_most-2.result + c.is_at_most-3.result

chosen : (c : After-is_at_most-3) → field_1 c.args.entry ≤ field_2 c.args.entry → field_2 c.args.entry ≤ field_3 c.args.entry
    → (position c < 4) × (record_field c.args.entry (position c) ≤ c.args.rank)
    × (position c < 3 → c.args.rank < record_field c.args.entry (position c + 1))
chosen c second third =
    let two = and_mask (c.args.entry / 2 ^ 43) 11 in
    let three = and_mask (c.args.entry / 2 ^ 32) 11 in
    record_chosen (record_field c.args.entry) c.args.rank c.is_at_most.result c.is_at_most-2.result c.is_at_most-3.result
    (refl {A = ℕ}) second third
    (λ h. c.is_at_most.ensures.yes (omega (arith, h))) (λ h. c.is_at_most.ensures.no (omega (arith, h)))
    (λ h. c.is_at_most-2.ensures.yes (omega (arith, h, two))) (λ h. c.is_at_most-2.ensures.no (omega (arith, h, two)))
    (λ h. c.is_at_most-3.ensures.yes (omega (arith, h, three))) (λ h. c.is_at_most-3.ensures.no (omega (arith, h, three)))

pub returns-clause-at_most : goal.returns-clause-at_most
returns-clause-at_most c second third =
    let h = chosen (goal.at.returns-clause-at_most c).After-is_at_most-3 second third in
    omega (arith, c.ones_to_record.ensures, shifted c.args.entry _ c.ranges.entry.fits h.0, h.1)

pub returns-clause-next : goal.returns-clause-next
returns-clause-next c second third = (chosen (goal.at.returns-clause-next c).After-is_at_most-3 second third).2
