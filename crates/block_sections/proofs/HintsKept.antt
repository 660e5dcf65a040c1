-- The hints of a block that is extended by a section are those of before, where this is not taken for hints.
use Rattle.std.proofs.Common.{◌≡◌, ◌≢◌, ◌<◌, ◌≤◌, ℕ, Bool, List, [], ◌==◌, ◌&&◌, if◌then◌else◌, nat_lt, ap, sym, ◌∙◌, ⊎_elim, arith}
use Rattle.std.proofs.lemmas.Bool.{cases_eq, cases_lt}
use Rattle.std.proofs.lemmas.Grind.{common_steps}
use Rattle.bitm_block.specs.Header.{count_in, section_entry, section_in}
use Rattle.bitm_block.specs.declared.layout.Section.{Section}
use Rattle.bitm_selection.specs.Hints.{hints_len}
use Rattle.block_sections.proofs.ExtendLemmas.{count_is, entry_is}
use Rattle.block_sections.specs.Extended.{IsExtended}
use Rattle.block_tables.specs.Hints.{hints_in, hints_with}
use Rattle.block_sections.proofs.KeptLemmas.{last_role}
use Rattle.block_sections.specs.Kept.{AddsNoHints}

-- what is taken of a section with this entry
abbrev taken : Bool → Section → ℕ → List ℕ → List ℕ
taken inside entry len words = if inside && entry.role == 22 && entry.count == len then words else []

both_less : (i n m : ℕ) → i < n → i < m → nat_lt i n ≡ nat_lt i m
both_less i n m one other = grind (arith, common_steps)

none_past : (block : List ℕ) (i len : ℕ) → count_in block ≤ i → hints_with block i len ≡ []
none_past block i len past = grind (arith, common_steps)

none_of_another_role : (block : List ℕ) (i len : ℕ) → (section_entry block i).role ≢ 22 → hints_with block i len ≡ []
none_of_another_role block i len other = grind (arith, common_steps)

pub hints_with_kept : (block : List ℕ) (added : Section) (words new : List ℕ) → IsExtended block added words new → (i len : ℕ) → AddsNoHints i block added
    → hints_with new i len ≡ hints_with block i len
hints_with_kept block added words new is i len free =
    let many = count_is block added words new is in
    let before : i < count_in block → hints_with new i len ≡ hints_with block i len = λ inside.
    ap (λ b. taken b (section_entry new i) len (section_in new i)) (both_less i (count_in new) (count_in block) (omega (arith, many, inside)) inside)
    ∙ ap (λ e. taken (nat_lt i (count_in block)) e len (section_in new i)) (entry_is block added words new is i inside)
    ∙ ap (taken (nat_lt i (count_in block)) (section_entry block i) len) (is.kept i inside) in
    let last : added.role ≢ 22 → i ≡ count_in block → (section_entry new i).role ≢ 22 = λ other at role.
    other (sym (last_role block added words new is) ∙ ap (λ k. (section_entry new k).role) (sym at) ∙ role) in
    let none : hints_with new i len ≡ [] → count_in block ≤ i → hints_with new i len ≡ hints_with block i len = λ new_none past.
    new_none ∙ sym (none_past block i len past) in
    ⊎_elim before
    (λ other.
    ⊎_elim before
    (λ past.
    ⊎_elim (λ at. none (none_of_another_role new i len (last other at)) past)
    (λ apart. none (none_past new i len (omega (arith, many, past, apart))) past)
    (cases_eq i (count_in block)))
    (cases_lt i (count_in block)))
    free

pub hints_kept : (block : List ℕ) (added : Section) (words new : List ℕ) → IsExtended block added words new → (i ones len : ℕ) → AddsNoHints i block added
    → hints_in new i ones len ≡ hints_in block i ones len
hints_kept block added words new is i ones len = hints_with_kept block added words new is i (hints_len ones len)
