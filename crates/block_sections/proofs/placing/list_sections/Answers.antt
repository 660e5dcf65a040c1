-- The next section is written, and then the one more.
use Rattle.std.proofs.Common.{◌≡◌, ◌+◌, ◌<◌, [], ◌∷◌, ◌++◌, get_or, slice_set, take, ap, sym, ◌∙◌, arith}
use Rattle.std.proofs.lemmas.List.{take_all, take_more, take_more_set}
use Rattle.bitm_block.proofs.HeaderLemmas.{section_at, sections_len}
use Rattle.bitm_block.specs.Header.{count_in, sections_in}
use Rattle.bitm_block.specs.Layout.{no_section}
use Rattle.bitm_block.specs.declared.layout.Section.{Section}
use Rattle.block_sections.proofs.placing.list_sections.Goals as goal

pub loop-i-preserved : goal.loop-i-preserved
loop-i-preserved c =
    let b = c.args.block.now in
    let i = c.loop-i.i in
    let ss = sections_in b in
    let less : i < count_in b = omega (arith, c.loop-i-test.true, c.sections-count.ensures.count) in
    let same : c.in-Some.section ≡ get_or ss i no_section = c.in-Some.ensures.entry ∙ sym (section_at b i no_section less) in
    take_more_set c.loop-i.list i c.in-Some.section (omega (arith, less, c.requires))
    ∙ ap (λ l. l ++ c.in-Some.section ∷ []) c.loop-i.invariant
    ∙ ap (λ (s : Section). take i ss ++ s ∷ []) same
    ∙ sym (take_more ss i no_section (omega (arith, less, sections_len b)))

pub returns-clause-list : goal.returns-clause-list
returns-clause-list c =
    let b = c.args.block.now in
    let n = c.sections-count.result in
    let ss = sections_in b in
    let added = c.args.added.now in
    let count : n ≡ count_in b = c.sections-count.ensures.count in
    let ended : c.loop-i.i ≡ n = omega (arith, c.loop-i.auto.i-end, c.loop-i-test.false) in
    ap (λ k. take (k + 1) (slice_set c.loop-i.list n added)) (sym count)
    ∙ take_more_set c.loop-i.list n added (omega (arith, count, c.requires))
    ∙ ap (λ l. l ++ added ∷ []) (ap (λ k. take k c.loop-i.list) (sym ended) ∙ c.loop-i.invariant ∙ ap (λ k. take k ss) ended)
    ∙ ap (λ l. l ++ added ∷ []) (take_all n ss (omega (arith, count, sections_len b)))
