-- The first section is written, and then those after it.
use Rattle.std.proofs.Common.{◌+◌, ◌<◌, ◌^◌, ◌∙◌, ap, subst, sum_by, All, arith}
use Rattle.std.proofs.lemmas.List.Elements.{All-tail}
use Rattle.std.proofs.lemmas.List.Sums.{sum_by-cons}
use Rattle.bitm_block.specs.Layout.{room_of}
use Rattle.bitm_block.specs.declared.layout.Section.{Section}
use Rattle.bitm_block.proofs.WrittenLemmas.{body_more, body_none, entries_more, entries_none}
use Rattle.bitm_block.proofs.writing.+write_sections.Goals as goal

pub returns-in_default-clause-entries : goal.returns-in_default-clause-entries
returns-in_default-clause-entries t c =
    entries_none c.args.at c.args.sections.now c.args.body.now c.args.entries.now c.in_default.ensures.cases c.requires.entries

pub returns-in_default-clause-body : goal.returns-in_default-clause-body
returns-in_default-clause-body t c = body_none c.args.sections.now c.args.body.now c.in_default.ensures.cases c.requires.body

pub write_sections-requires : goal.write_sections-requires
write_sections-requires t c =
    let first = c.in-Some.ensures.cases.0 in
    let s = c.in-Some.section.now in
    let later = c.in-Some.later.now in
    let all = ap (sum_by room_of) first ∙ sum_by-cons room_of s later in (
      omega (arith, c.in-Some.ensures.cases.1),
      (
        All-tail (λ (x : Section). x.count < 2 ^ 58) s later (subst (All (λ (x : Section). x.count < 2 ^ 58)) first c.requires.counts),
        (
          omega (arith, c.split_at_mut-entry.ensures.back_len, c.requires.entries, c.in-Some.ensures.cases.1),
          (
            omega (arith, c.split_at_mut-words.ensures.back_len, c.requires.body, c.room.ensures.room, all),
            omega (arith, c.split_at_mut-words.ensures.back_len, c.requires.near, c.room.ensures.room, c.room-2.ensures.room),
          ),
        ),
      ),
    )

pub returns-clause-entries : goal.returns-clause-entries
returns-clause-entries t c =
    entries_more c.args.sections.now c.in-Some.later.now c.in-Some.section.now c.args.body.now c.split_at_mut-words.result.0.now
    c.split_at_mut-words.result.1.now c.room.result c.in-Some.ensures.cases.0 c.room.ensures.room c.split_at_mut-words.ensures.front
    c.split_at_mut-words.ensures.back c.args.at _ c.words.result c.write_entry.new.entry c.write_sections.new.entries
    c.words.ensures.words (ap (λ k. c.args.at + k) c.room-2.ensures.room) c.write_entry.ensures c.write_sections.ensures.entries

pub returns-clause-body : goal.returns-clause-body
returns-clause-body t c =
    body_more c.args.sections.now c.in-Some.later.now c.in-Some.section.now c.args.body.now c.split_at_mut-words.result.0.now
    c.split_at_mut-words.result.1.now c.room.result c.in-Some.ensures.cases.0 c.room.ensures.room c.split_at_mut-words.ensures.front
    c.split_at_mut-words.ensures.back c.words-2.result c.clear_from.new.words c.write_sections.new.body
    c.words-2.ensures.words c.split_at_mut-words.ensures.front_len c.clear_from.ensures c.write_sections.ensures.body
