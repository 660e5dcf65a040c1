-- Each count shows in which half of the words that are left the item is, and the last word shows the position, or that all
-- eight are passed.
use Rattle.std.proofs.Common.{◌≡◌, ◌+◌, ◌*◌, subst, ◌∙◌, arith, count_ones}
use Rattle.bit_lists.specs.Count.{as_bit, ones_before}
use Rattle.bitm_select.specs.Search.{sought_in, IsWord}
use Rattle.bitm_tables.specs.Tables.{Lists}
use Rattle.bitm_select.proofs.lemmas.MarkLemmas.{CountsWord, picked_in_word, sought_bits-long, word_counts}
use Rattle.bitm_select.proofs.lemmas.HalfLemmas.{HasItems, IsRun, four_items, items_before, run_ends, run_passes, two_items, word_items}
use Rattle.bitm_select.proofs.many.loaded.in_whole.Goals as goal
use Rattle.bitm_select.proofs.many.loaded.in_whole.Goals.{After-sought_word-last}

same : (g : _) (c : After-sought_word-last g) → g.T.TableSource.lists c.items_of_word-one.new.source ≡ g.T.TableSource.lists c.args.source.now
same g c =
    c.items_of_word-one.ensures.same ∙ (c.items_of_word-5.ensures.same ∙ (c.items_of_word-4.ensures.same
    ∙ (c.items_of_word-3.ensures.same ∙ (c.items_of_word-2.ensures.same ∙ c.items_of_word.ensures.same))))

run : (g : _) (c : After-sought_word-last g)
    → IsRun (sought_in g.row.BIT (g.T.TableSource.lists c.args.source.now).words)
    (ones_before (sought_in g.row.BIT (g.T.TableSource.lists c.args.source.now).words) (64 * c.args.first) + c.args.rest)
    (c.args.first + 8) c.pass-at.result.0 c.pass-at.result.1 1
run g c =
    let lists = g.T.TableSource.lists c.args.source.now in
    let bit = g.row.BIT in
    let m = sought_in bit lists.words in
    let first = c.args.first in
    let R = ones_before m (64 * first) + c.args.rest in
    let half = c.pass-half.result.0 in
    let pair = c.pass-pair.result.0 in
    let same_1 = c.items_of_word.ensures.same in
    let same_2 = c.items_of_word-2.ensures.same ∙ same_1 in
    let same_3 = c.items_of_word-3.ensures.same ∙ same_2 in
    let same_4 = c.items_of_word-4.ensures.same ∙ same_3 in
    let same_5 = c.items_of_word-5.ensures.same ∙ same_4 in
    let word = word_items bit lists first c.args.word (omega (arith, c.requires.inside)) c.ranges.word.fits c.requires.word in
    let second = c.items_of_word.ensures.count in
    let third = items_before bit lists _ (first + 2) c.items_of_word-2.result same_1 c.items_of_word-2.ensures.count in
    let fourth = items_before bit lists _ (first + 3) c.items_of_word-3.result same_2 c.items_of_word-3.ensures.count in
    let count_4 = count_ones c.args.word + c.items_of_word.result + c.items_of_word-2.result + c.items_of_word-3.result in
    let eight : IsRun m R (first + 8) first c.args.rest (4 + 4) =
    record { total = omega arith; bound = omega arith; next = λ h. absurd (omega (arith, h)) } in
    let four =
    run_passes m R (first + 8) first c.args.rest 4 count_4 c.pass-half.result eight
    (four_items bit lists first (count_ones c.args.word) c.items_of_word.result c.items_of_word-2.result c.items_of_word-3.result word
    second third fourth)
    c.pass-half.ensures.passed c.pass-half.ensures.stays in
    let fifth = items_before bit lists _ half c.items_of_word-4.result same_3 c.items_of_word-4.ensures.count in
    let sixth = items_before bit lists _ (half + 1) c.items_of_word-5.result same_4 c.items_of_word-5.ensures.count in
    let count_2 = c.items_of_word-4.result + c.items_of_word-5.result in
    let two =
    run_passes m R (first + 8) half c.pass-half.result.1 2 count_2 c.pass-pair.result four
    (two_items bit lists half c.items_of_word-4.result c.items_of_word-5.result fifth sixth) c.pass-pair.ensures.passed
    c.pass-pair.ensures.stays in
    run_passes m R (first + 8) pair c.pass-pair.result.1 1 c.items_of_word-one.result c.pass-at.result two
    (items_before bit lists _ pair c.items_of_word-one.result same_5 c.items_of_word-one.ensures.count) c.pass-at.ensures.passed
    c.pass-at.ensures.stays

last : (g : _) (c : After-sought_word-last g)
    → CountsWord (sought_in g.row.BIT (g.T.TableSource.lists c.args.source.now).words) c.pass-at.result.0 c.sought_word-last.result
last g c =
    let lists = g.T.TableSource.lists c.args.source.now in
    let at = c.pass-at.result.0 in
    word_counts (sought_in g.row.BIT lists.words) at c.sought_word-last.result
    (sought_bits-long lists.words (as_bit g.row.BIT) at (omega (arith, (run g c).bound, c.requires.inside)))
    (subst (λ (l : Lists). IsWord (sought_in g.row.BIT l.words) at c.sought_word-last.result) (same g c) c.sought_word-last.ensures.word)

pub returns-then-left-last-clause-answer : goal.returns-then-left-last-clause-answer
returns-then-left-last-clause-answer g c =
    let d = (goal.at.returns-then-left-last-clause-answer g c).After-sought_word-last in
    let lists = g.T.TableSource.lists c.args.source.now in
    let e = c.select_in_word.ensures in
    let R = ones_before (sought_in g.row.BIT lists.words) (64 * c.args.first) + c.args.rest in
    picked_in_word lists.words (as_bit g.row.BIT) c.pass-at.result.0 c.sought_word-last.result R c.pass-at.result.1 (last g d) (run g d).total
    c.select_in_word.result (omega (arith, (run g d).bound, c.requires.inside)) e.inside e.before e.after

pub returns-else-left-last-clause-answer : goal.returns-else-left-last-clause-answer
returns-else-left-last-clause-answer g c =
    let d = (goal.at.returns-else-left-last-clause-answer g c).After-sought_word-last in
    let lists = g.T.TableSource.lists c.args.source.now in
    let m = sought_in g.row.BIT lists.words in
    let at = c.pass-at.result.0 in
    let R = ones_before m (64 * c.args.first) + c.args.rest in
    let items : HasItems g.row.BIT lists at (count_ones c.sought_word-last.result) =
    word_items g.row.BIT lists at c.sought_word-last.result (omega (arith, (run g d).bound, c.requires.inside)) c.sought_word-last.type_inv
    (subst (λ (l : Lists). IsWord (sought_in g.row.BIT l.words) at c.sought_word-last.result) (same g d) c.sought_word-last.ensures.word) in
    run_ends m R (c.args.first + 8) at c.pass-at.result.1 (run g d) (omega (arith, (run g d).total, items, c.if-left-last.false))
