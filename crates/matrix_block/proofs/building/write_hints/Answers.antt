-- The room has the hints of the words in its first words.
use Rattle.std.proofs.Common.{◌≡◌, ◌++◌, ℕ, List, length, take, sym, ap, ◌∙◌, subst, arith}
use Rattle.std.proofs.Math.Seq.{take-append_seam}
use Rattle.bitm_selection.specs.Hints.{hints_room, Lead}
use Rattle.bitm_tables.specs.Tables.{Lists}
use Rattle.matrix_levels.specs.Matrix.{matrix_words}
use Rattle.matrix_block.proofs.BlockLemmas.{some-words}
use Rattle.matrix_block.proofs.LevelLemmas.{words-len}
use Rattle.matrix_block.specs.Block.{hints_of_numbers, lists_in, ones_in, ones_by_counts, zeros_in, AreHintsWritten}
use Rattle.matrix_block.proofs.building.write_hints.Goals as goal
use Rattle.matrix_block.proofs.building.write_hints.Goals.{After-source_of}

-- there are as many words in the source as the numbers have
words : (c : After-source_of) → length c.source_of.result.lists.words ≡ matrix_words c.args.len c.args.width
words c =
    ap (λ (l : Lists). length l.words) c.source_of.ensures
    ∙ words-len c.args.front.now c.args.at (matrix_words c.args.len c.args.width) (omega (arith, c.requires.whole))

pub write_hints_within-requires-clause-short : goal.write_hints_within-requires-clause-short
write_hints_within-requires-clause-short c = λ some.
    let count = words (goal.at.write_hints_within-requires-clause-short c).After-source_of in
    some-words (length c.source_of.result.lists.words) (length c.split_at_mut-all.result.0.now)
    (c.split_at_mut-all.ensures.front_len ∙ c.of.ensures.hints ∙ ap hints_room (sym count)) some

pub returns-then-hints : goal.returns-then-hints
returns-then-hints c = λ _.
    let n = c.args.len in
    let w = c.args.width in
    let count = words (goal.at.returns-then-hints c).After-source_of in
    let all = c.write_hints_within.new.hints in
    let len : length all ≡ hints_of_numbers n w = omega (arith, c.write_hints_within.ensures.len, c.split_at_mut-all.ensures.front_len, c.of.ensures.hints) in
    let listed : c.source_of.result.lists.words ≡ (lists_in c.args.front.now c.args.at n w).words = ap (λ (l : Lists). l.words) c.source_of.ensures in
    let own : all ≡ take (hints_of_numbers n w) (all ++ c.split_at_mut-all.result.1.now) =
    sym (ap (λ k. take k (all ++ c.split_at_mut-all.result.1.now)) (sym len) ∙ take-append_seam all c.split_at_mut-all.result.1.now) in
    let claimed = ones_by_counts n (ones_in c.args.front.now c.args.at n w) (zeros_in c.args.front.now c.args.at n w) in
    subst (λ (hs : List ℕ). AreHintsWritten claimed (lists_in c.args.front.now c.args.at n w).words hs) own
    (subst (λ (ws : List ℕ). AreHintsWritten claimed ws all) listed (record {
      room = len ∙ ap hints_room (sym count);
      lead = subst (λ (o : ℕ). Lead o all c.source_of.result.lists.words) c.ones_in-ones.ensures c.write_hints_within.ensures.lead;
    }))
