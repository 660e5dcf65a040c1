-- Which of the tests fails says which clause does not hold.
use Rattle.std.proofs.Common.{ℕ, List, ap, subst, refl, ◌∙◌}
use Rattle.bitm_block.specs.Header.{IsVerified}
use Rattle.bitm_block.specs.Layout.{end_of, AreShort}
use Rattle.block_sections.specs.Extended.{extended_sections, HasSectionRoom}
use Rattle.block_sections.proofs.extending.extend.Goals as goal

pub returns-then-not-verify-clause-not_verified : goal.returns-then-not-verify-clause-not_verified
returns-then-not-verify-clause-not_verified c =
    let b = c.args.block.now in
    let s = c.args.added.now in
    let same = c.in-Ok.ensures.words in
    let room : HasSectionRoom b s c.args.words.now c.args.to.now = record {
      fits = record {
        can = record { is_block = c.in-Ok.ensures.ok.0 refl; short = subst (λ (x : List ℕ). AreShort (extended_sections x s)) same c.in-Some.ensures.0 };
        long = c.if-words.false ∙ c.words.ensures.words;
      };
      room = c.if-to-len.false ∙ c.in-Some.ensures.1 ∙ ap (λ (x : List ℕ). end_of (extended_sections x s)) same;
    } in
    let spoiled : IsVerified c.in-Ok.opened → ⊥ = λ is. let right = c.verify.ensures.1 is in cc in
    (λ _. (room, subst (λ (x : List ℕ). IsVerified x → ⊥) same spoiled), λ _. refl)

pub returns-clause-not_verified : goal.returns-clause-not_verified
returns-clause-not_verified c =
    let right : IsVerified c.args.block.now = subst (λ (x : List ℕ). IsVerified x) c.in-Ok.ensures.words (c.verify.ensures.0 c.if-not-verify.false) in
    (λ e. absurd (cc), λ h. absurd (h.1 right))

pub returns-clause-ok : goal.returns-clause-ok
returns-clause-ok c =
    let b = c.args.block.now in
    let s = c.args.added.now in
    let same = c.in-Ok.ensures.words in
    let room : HasSectionRoom b s c.args.words.now c.args.to.now = record {
      fits = record {
        can = record { is_block = c.in-Ok.ensures.ok.0 refl; short = subst (λ (x : List ℕ). AreShort (extended_sections x s)) same c.in-Some.ensures.0 };
        long = c.if-words.false ∙ c.words.ensures.words;
      };
      room = c.if-to-len.false ∙ c.in-Some.ensures.1 ∙ ap (λ (x : List ℕ). end_of (extended_sections x s)) same;
    } in
    (λ _. (room, subst (λ (x : List ℕ). IsVerified x) same (c.verify.ensures.0 c.if-not-verify.false)), λ _. refl)
