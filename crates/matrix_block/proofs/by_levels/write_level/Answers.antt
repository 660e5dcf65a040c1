-- The bits of the level are those of the block.
use Rattle.std.proofs.Common.{◌≡◌, ◌-◌, ◌*◌, ◌++◌, length, drop, take, sym, ap, ◌∙◌, arith}
use Rattle.std.proofs.lemmas.List.{map-id}
use Rattle.bit_lists.specs.Bits.{bits_of}
use Rattle.matrix_levels.specs.Levels.{column, partition}
use Rattle.matrix_levels.specs.Matrix.{matrix_words}
use Rattle.matrix_block.proofs.LevelLemmas.{no-level, writes-level}
use Rattle.matrix_block.specs.Block.{first_at}
use Rattle.matrix_block.proofs.by_levels.write_level.Goals as goal
use Rattle.matrix_block.proofs.by_levels.write_level.Goals.{then-depth-eq0, else-depth-eq0}

pub returns : goal.returns
returns c =
    let xs = c.args.numbers.now in
    let n = length xs in
    let w = c.args.width in
    let d = c.args.depth in
    let position = w - 1 - d in
    let before = c.split_at_mut-words.result.0.now in
    let first = c.if-depth-eq0.words in
    let count = c.split_at_mut-words.ensures.front_len ∙ c.of.ensures.words in
    let kept : take (d * n) (bits_of first) ≡ take (d * n) (bits_of before) =
    elim c.if-depth-eq0.branch [
      | then-depth-eq0 w ↦ no-level d n (bits_of first) (bits_of before) w.if-depth-eq0.true
      | else-depth-eq0 w ↦ ap (λ ws. take (d * n) (bits_of ws)) w.words-is
    ] in
    writes-level w d (first_at c.args.quarters c.args.hints) xs c.write_level_of.new.numbers c.args.block.now c.split_at_mut-head.result.0.now before first c.write_level_of.new.words
    c.split_at_mut-words.result.1.now (c.split_at_mut-head.ensures.front_len ∙ c.first_at.ensures) (omega (arith, c.write_level_of.auto.words, count))
    (c.split_at_mut-words.ensures.front ∙ ap (λ k. take k c.split_at_mut-head.result.1.now) c.of.ensures.words
    ∙ ap (take (matrix_words n w)) (c.split_at_mut-head.ensures.back ∙ ap (λ i. drop i c.args.block.now) c.first_at.ensures))
    kept
    (c.write_level_of.ensures.bits ∙ ap (λ ys. take (d * n) (bits_of first) ++ column position ys) (map-id xs))
    (sym (map-id c.write_level_of.new.numbers) ∙ c.write_level_of.ensures.numbers ∙ ap (partition position) (map-id xs))
