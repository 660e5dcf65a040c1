-- The bit of its word is that of a level of one word.
use Rattle.std.proofs.Common.{◌≡◌, ℕ, ◌*◌, ◌/◌, ◌%◌, ◌^◌, List, refl, ap, ◌∙◌, arith}
use Rattle.perfect_hash.specs.Positions.{position_by, spread}
use Rattle.hash_block.proofs.SeedLemmas.{in_its_word}
use Rattle.hash_block.proofs.seeded.packed.PackedSeedsPlacing.position.Goals as goal

pub returns-clause-at : goal.returns-clause-at
returns-clause-at c =
    let x : c.spread_at.result ≡ spread c.args.hash c.args.level % 2 ^ 64 = omega (arith, c.spread_at.ensures, c.spread_at.type_inv) in
    in_its_word c.args.self.now c.read.result c.args.begin c.args.hash c.args.level c.args.words c.word_of-word.result _ c.place_seeded.result
    (c.word_of-word.ensures.at ∙ ap (λ (y : ℕ). y * c.args.words / 2 ^ 64) x)
    c.read.ensures.seed
    (c.place_seeded.ensures.at ∙ ap (λ (s : List ℕ). position_by s 0 c.args.hash c.args.level 1) c.as_slice.ensures)
    refl
