-- What the words near the spot show is of the same parts.
use Rattle.std.proofs.Common.{ℕ, ap, subst, ◌∙◌, arith}
use Rattle.bit_lists.specs.Bits.{digit_count}
use Rattle.bitm_tables.specs.Tables.{Lists}
use Rattle.elias_fano.specs.SequenceParts.{parts_of, parts_with, Holds}
use Rattle.elias_fano.specs.Low.{sharing}
use Rattle.postings.proofs.HeldLemmas.{same_parts}
use Rattle.postings.specs.Moves.{IsFar}
use Rattle.postings.proofs.near.near_or_far_on.Goals as goal

pub returns-in-Far-clause-far : goal.returns-in-Far-clause-far
returns-in-Far-clause-far g c = λ xs h s.
    let f = c.near_on.ensures.fragments in
    let same = c.near_on.ensures.reads.same in
    let there : Holds xs (parts_with c.args.n c.near_on.new.low (g.T.TableSource.lists c.near_on.new.source)) =
    same_parts (λ w ws l. Holds xs (parts_of c.args.n w ws l)) c.args.low.now c.near_on.new.low _ _ f.words f.width same h in
    subst (λ (l : Lists). IsFar xs l.words c.args.v c.far_on.result) same (c.far_on.ensures.far xs there)

pub returns-in-Far-clause-shared : goal.returns-in-Far-clause-shared
returns-in-Far-clause-shared g c = λ xs h.
    let f = c.near_on.ensures.fragments in
    let same = c.near_on.ensures.reads.same in
    let there : Holds xs (parts_with c.args.n c.near_on.new.low (g.T.TableSource.lists c.near_on.new.source)) =
    same_parts (λ w ws l. Holds xs (parts_of c.args.n w ws l)) c.args.low.now c.near_on.new.low _ _ f.words f.width same h in
    let k = c.far_on.ensures.shared xs there in
    record {
      at_most = omega (arith, f.at_most, k.at_most, ap (λ (w : ℕ). digit_count (sharing xs w c.args.v)) f.width);
      words = k.words ∙ f.words;
      width = k.width ∙ f.width;
    }
