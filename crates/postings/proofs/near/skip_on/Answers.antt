-- The ones before a word are those before the position without those of the word.
use Rattle.std.proofs.Common.{◌≡◌, ◌+◌, ◌*◌, ◌-◌, ◌/◌, ◌%◌, ◌<◌, ◌≤◌, ℕ, [], ◌∷◌, ap, subst, ◌∙◌, false, true, arith, length}
use Rattle.bit_lists.specs.Bits.{bits_of}
use Rattle.bit_lists.specs.Count.{ones_before, zeros_before, Picks}
use Rattle.bitm_tables.specs.Tables.{bits_in, Lists}
use Rattle.bit_lists.proofs.BitLaws.{bits_are_counted, ones_and_zeros, counts_grow, none_before_the_first}
use Rattle.postings.proofs.WordLemmas.{in_word, zeros_sought, if_some}
use Rattle.bitm_tables.specs.Entry.{padded_bits, negation}
use Rattle.postings.proofs.near.skip_on.Goals as goal
use Rattle.postings.proofs.near.skip_on.Goals.{After-count_range-ones}

pub word-word-requires : goal.word-word-requires
word-word-requires g c = omega (arith, c.requires.inside, bits_are_counted (g.T.TableSource.lists c.args.source.now).words)

-- how many ones stand before the word
before : (g : _) (c : After-count_range-ones g) → Picks (bits_in (g.T.TableSource.lists c.args.source.now)) true c.args.at c.args.one
    → ones_before (bits_in (g.T.TableSource.lists c.args.source.now)) (64 * (c.args.one / 64)) + c.count_range-ones.result ≡ c.args.at
before g c one =
    let words = (g.T.TableSource.lists c.args.source.now).words in
    let b = bits_of words in
    let k = c.args.one / 64 in
    let is : 64 * k + c.args.one % 64 ≡ c.args.one = omega arith in
    let inside : k < length words = omega (arith, c.requires.inside, bits_are_counted words) in
    let here = in_word words c.word-word.result k true (c.args.one % 64) inside c.word-word.ensures.item (omega arith) in
    omega (arith, here, ap (ones_before b) is, one.before, c.count_range-ones.ensures, none_before_the_first (bits_of (c.word-word.result ∷ [])) true)

-- and how many zeros
zeros : (g : _) (c : After-count_range-ones g) → Picks (bits_in (g.T.TableSource.lists c.args.source.now)) true c.args.at c.args.one
    → zeros_before (bits_in (g.T.TableSource.lists c.args.source.now)) (64 * (c.args.one / 64)) ≡ c.args.one / 64 * 64 - (c.args.at - c.count_range-ones.result)
zeros g c one =
    let words = (g.T.TableSource.lists c.args.source.now).words in
    omega (arith, before g c one, ones_and_zeros (bits_of words) (64 * (c.args.one / 64)) (omega (arith, c.requires.inside, bits_are_counted words)))

few : (g : _) (c : After-count_range-ones g) → Picks (bits_in (g.T.TableSource.lists c.args.source.now)) true c.args.at c.args.one
    → c.args.one - c.args.at ≤ c.args.zeros → c.args.one / 64 * 64 - (c.args.at - c.count_range-ones.result) ≤ c.args.zeros
few g c one later =
    let b = bits_in (g.T.TableSource.lists c.args.source.now) in
    omega (arith, zeros g c one, counts_grow b false (64 * (c.args.one / 64)) c.args.one (omega arith), ones_and_zeros b c.args.one (omega (arith, c.requires.inside)), one.before, later)

pub overflow_sub-words_len : goal.overflow_sub-words_len
overflow_sub-words_len g c = omega (arith, c.requires.inside, bits_are_counted (g.T.TableSource.lists c.args.source.now).words, c.words_len.ensures, ap (λ (l : Lists). length l.words) c.word-word.ensures.same)

pub returns-clause-zero : goal.returns-clause-zero
returns-clause-zero g c = λ one later.
    let w = (goal.at.returns-clause-zero g c).After-count_range-ones in
    let lists = g.T.TableSource.lists c.args.source.now in
    let b = bits_in lists in
    let k = c.args.one / 64 in
    let same = c.word-word.ensures.same in
    let m = negation (padded_bits (bits_in (g.T.TableSource.lists c.word-word.new.self))) in
    let sought : ones_before m (64 * k) ≡ zeros_before b (64 * k) =
    ap (λ (l : Lists). ones_before (negation (padded_bits (bits_in l))) (64 * k)) same
    ∙ zeros_sought b _ (64 * k) (omega (arith, c.requires.inside)) in
    let rank : ones_before m (64 * k) + c.saturating_sub-2.result ≡ c.args.zeros =
    omega (arith, sought, zeros g w one, few g w one later, c.saturating_sub-2.ensures, c.saturating_sub-before.ensures, c.saturating_sub.ensures) in
    if_some c.among.result _ _ (Picks b false c.args.zeros) c.among.ensures.answer
    (λ p picks. subst (λ (l : Lists). Picks (bits_in l) false c.args.zeros p) same
    (subst (λ (r : ℕ). Picks (bits_in (g.T.TableSource.lists c.word-word.new.self)) false r p) rank picks))
