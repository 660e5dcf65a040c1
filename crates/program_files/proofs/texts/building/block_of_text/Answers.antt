-- The block has the length that was asked for, and so has the scratch.
use Rattle.std.proofs.Common.{◌∙◌, refl, sym, drop, length, arith, rules}
use Rattle.std.proofs.lemmas.Bool.{true≢false}
use Rattle.std.proofs.lemmas.List.{take_at}
use Rattle.program_files.proofs.texts.building.block_of_text.Goals as goal

pub unreachable-requires : goal.unreachable-requires
unreachable-requires c =
    let fits = c.in-Some.ensures.some.0 refl in
    let block = c.as_mut_slice-2.ensures.len ∙ c.in_ok-block.ensures.len ∙ c.in-Some.ensures.len in
    let scratch = c.as_mut_slice.ensures.len ∙ c.in_ok-scratch.ensures.len ∙ c.in-Some-scratch_len_of_bytes.ensures.len in
    absurd (true≢false (sym (c.in-Err.ensures.ok.1 (fits.0, fits.1, block, scratch))))

pub returns-clause-too_long : goal.returns-clause-too_long
returns-clause-too_long c =
    let fits = c.in-Some.ensures.some.0 refl in
    (λ h. search rules, λ h. absurd (omega (arith, h, fits.0)))

pub returns-clause-block : goal.returns-clause-block
returns-clause-block c =
    let block = c.build_bytes.new.block in
    let whole = take_at block (drop (length block) c.in_ok-block.block.items) c.in_ok-block.block.len (omega (arith, c.build_bytes.auto.block, c.as_mut_slice-2.ensures.len)) in
    rw whole c.in-Ok.ensures.block
