-- The ones that were made are added after the others.
use Rattle.std.proofs.Common.{◌≡◌, ℕ, List, ◌++◌, length, take, eqb, subst, sym, ap, ◌∙◌, arith}
use Rattle.bit_lists.specs.Bits.{bits_of}
use Rattle.perfect_hash.specs.Levels.{hits, left_of, AddsLevel}
use Rattle.perfect_hash.proofs.lemmas.BuildLemmas.{adds_level}
use Rattle.perfect_hash.proofs.lemmas.WordLemmas.{front}
use Rattle.perfect_hash.proofs.levels.building.add_level.Goals as goal

pub returns-clause-added : goal.returns-clause-added
returns-clause-added g c =
    let by = g.P.Placing.fall c.add_level.new.self in
    let begin = c.len-begin.result in
    let hashes = c.args.hashes.now.items in
    let sizes = c.args.levels.now.sizes.items in
    let words = c.args.levels.now.words.items in
    let hit = c.make_level.new.buffers.hit.items in
    let level = c.args.level in
    let begins : begin ≡ length words = omega (arith, c.len-begin.ensures, c.args.levels.now.words.ok.0) in
    let P : ℕ → Type 0 = λ n.
    AddsLevel (by n) hashes sizes words c.push.new.self.items c.extend_from_slice.new.self.items c.truncate.new.self.items in
    let kept : c.truncate.new.self.items ≡ take c.keep_left-left.result c.keep_left-left.new.hashes =
    c.truncate.ensures.items ∙ front c.keep_left-left.result c.args.hashes.now.len c.keep_left-left.new.hashes hashes
    (omega (arith, c.keep_left-left.auto.hashes, ap length c.as_mut_slice.ensures.value)) (sym c.args.hashes.now.ok.0)
    (omega (arith, c.keep_left-left.ensures.few, ap length c.as_mut_slice.ensures.value)) in
    subst P begins
    (adds_level (by begin) (g.met.P.Placing.inside c.add_level.new.self begin) hashes c.truncate.new.self.items sizes words _ _ hit c.args.size level
    c.requires.some c.requires.count c.in_ok-make_level.ensures.len
    c.in_ok-push.ensures.items
    (c.in_ok-extend_from_slice.ensures.items ∙ ap (λ (ws : List ℕ). words ++ ws) c.as_slice-4.ensures.value)
    (λ p less. c.in_ok-make_level.ensures.level p less ∙ ap (λ (hs : List ℕ). eqb (hits (by begin) hs level c.args.size p) 1) c.as_slice-2.ensures.value)
    (kept ∙ c.keep_left-left.ensures.left
    ∙ ap (λ (hs : List ℕ). left_of (by begin) hs (bits_of c.as_slice-3.result.now) level 0 (length c.as_slice-3.result.now)) c.as_mut_slice.ensures.value
    ∙ ap (λ (ws : List ℕ). left_of (by begin) hashes (bits_of ws) level 0 (length ws)) c.as_slice-3.ensures.value))
