-- Levels begin after those above them.
use Rattle.std.proofs.Common.{◌≡◌, ℕ, length, replicate, set, refl, sym, ap, ◌∙◌, arith, length-set}
use Rattle.std.proofs.lemmas.List.{length-replicate}
use Rattle.tree_block.specs.Words.{words_in}
use Rattle.tree_block.proofs.StepLemmas.{all_above, levels_begin, root_counted, root_summed}
use Rattle.tree_block.proofs.words.levels.begin_levels.Goals as goal

pub count_words-requires-clause-counts : goal.count_words-requires-clause-counts
count_words-requires-clause-counts c =
    let zeros = c.clear_numbers.new.numbers in
    let same : length zeros ≡ length c.args.levels.now = ap length c.clear_numbers.ensures ∙ length-replicate (length c.args.levels.now) 0 in
    root_counted (words_in c.args.bytes.now c.args.starts.now) (set zeros 0 1) zeros refl
    (c.clear_numbers.ensures ∙ ap (λ (n : ℕ). replicate n 0) (sym same))

pub count_words-requires-clause-total : goal.count_words-requires-clause-total
count_words-requires-clause-total c =
    let zeros = c.clear_numbers.new.numbers in
    let same : length zeros ≡ length c.args.levels.now = ap length c.clear_numbers.ensures ∙ length-replicate (length c.args.levels.now) 0 in
    root_summed (words_in c.args.bytes.now c.args.starts.now) (set zeros 0 1) zeros refl
    (c.clear_numbers.ensures ∙ ap (λ (n : ℕ). replicate n 0) (sym same)) (omega (arith, same, c.requires.room))

pub returns-clause-next : goal.returns-clause-next
returns-clause-next c =
    levels_begin (words_in c.args.bytes.now c.args.starts.now) c.count_words.new.levels c.add_up.new.numbers c.count_words.ensures.counts
    (omega arith) c.add_up.ensures

pub returns-clause-all : goal.returns-clause-all
returns-clause-all c =
    all_above (words_in c.args.bytes.now c.args.starts.now) c.count_words.new.levels c.count_words.ensures.counts c.count_words.ensures.total
    (omega (
      arith,
      c.count_words.auto.levels,
      length-set c.clear_numbers.new.numbers 0 1,
      c.clear_numbers.auto.numbers,
      c.requires.room,
    ))
