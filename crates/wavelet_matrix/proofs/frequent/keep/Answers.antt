-- One more, or one in place of the last.
use Rattle.std.proofs.Common.{◌≡◌, ℕ, ◌<◌, List, [], ◌∷◌, ◌++◌, length, All, refl, sym, ap, ◌∙◌, subst, arith}
use Rattle.bitm_bits.proofs.lemmas.AppendLemmas.{written_back}
use Rattle.std.proofs.lemmas.Slice.Zip.{length-zip}
use Rattle.std.specs.List.{zip}
use Rattle.matrix_levels.specs.Frequent.{AreBest}
use Rattle.matrix_levels.proofs.FrequentLemmas.{best-more, best-moved}
use Rattle.matrix_levels.proofs.HeapLemmas.{zip-push}
use Rattle.wavelet_matrix.proofs.frequent.keep.Goals as goal
use Rattle.wavelet_matrix.proofs.frequent.keep.Goals.{In_ok-push-2}

best-as : (ys : List (ℕ × ℕ)) (us us2 vs vs2 : List ℕ) (k k2 : ℕ) → us2 ≡ us → vs2 ≡ vs → k2 ≡ k → AreBest ys k (zip us vs) → AreBest ys k2 (zip us2 vs2)
best-as ys us us2 vs vs2 k k2 e f g best =
    let P : List ℕ → Type 0 = λ l. AreBest ys k2 (zip l vs2) in
    let Q : List ℕ → Type 0 = λ l. AreBest ys k2 (zip us l) in
    let R : ℕ → Type 0 = λ m. AreBest ys m (zip us vs) in
    subst P (sym e) (subst Q (sym f) (subst R (sym g) best))

pub returns-then-len-k-clause-best : goal.returns-then-len-k-clause-best
returns-then-len-k-clause-best c = λ ys best less.
    let us = c.as_mut_slice.result.now in
    let vs = c.as_mut_slice-then-len-k.result.now in
    let put = c.replace_last.ensures in
    let full : length us ≡ c.args.k = omega (arith, c.as_mut_slice.ensures.len, c.if-len-k.true, c.len.ensures) in
    best-as _ c.replace_last.new.numbers _ c.replace_last.new.counts _ (length us) c.args.k
    (written_back c.args.numbers.now.items c.replace_last.new.numbers c.args.numbers.now.len (put.len ∙ c.as_mut_slice.ensures.len))
    (written_back c.args.counts.now.items c.replace_last.new.counts c.args.counts.now.len (c.replace_last.auto.counts ∙ c.as_mut_slice-then-len-k.ensures.len))
    (sym full)
    (put.best ys (best-as ys c.args.numbers.now.items us c.args.counts.now.items vs c.args.k (length us) c.as_mut_slice.ensures.value
    c.as_mut_slice-then-len-k.ensures.value full best) less)

-- one more
more : (us vs us2 vs2 : List ℕ) (k x n : ℕ) (ys : List (ℕ × ℕ)) → length vs ≡ length us → length us < k → us2 ≡ us ++ x ∷ [] → vs2 ≡ vs ++ n ∷ []
    → AreBest ys k (zip us vs) → All (λ p. p.0 < x) ys → AreBest (ys ++ (x, n) ∷ []) k (zip us2 vs2)
more us vs us2 vs2 k x n ys same room e f best less =
    let P : List (ℕ × ℕ) → Type 0 = λ l. AreBest (ys ++ (x, n) ∷ []) k l in
    subst P (sym (ap (λ l. zip l vs2) e ∙ ap (λ l. zip (us ++ x ∷ []) l) f ∙ zip-push us vs x n same))
    (best-more ys k (zip us vs) (x, n) best less (omega (arith, room, length-zip us vs, same)))

pushed : (c : In_ok-push-2) → (ys : List (ℕ × ℕ)) → AreBest ys c.args.k (zip c.args.numbers.now.items c.args.counts.now.items)
    → All (λ p. p.0 < c.args.number) ys → AreBest (ys ++ (c.args.number, c.args.count) ∷ []) c.args.k (zip c.push.new.self.items c.push-2.new.self.items)
pushed c ys best less =
    more c.args.numbers.now.items c.args.counts.now.items _ _ c.args.k c.args.number c.args.count ys c.requires.same
    (omega (arith, c.requires.few, c.if-len-k.false, c.len.ensures)) c.in_ok-push.ensures.items c.in_ok-push-2.ensures.items best less

pub returns-then-len-k-2-clause-best : goal.returns-then-len-k-2-clause-best
returns-then-len-k-2-clause-best c = λ ys best less. pushed (goal.at.returns-then-len-k-2-clause-best c).In_ok-push-2 ys best less

pub returns-clause-best : goal.returns-clause-best
returns-clause-best c = λ ys best less.
    let us = c.as_mut_slice-2.result.now in
    let vs = c.as_mut_slice-3.result.now in
    let made = c.make_heap.ensures in
    let new = ys ++ (c.args.number, c.args.count) ∷ [] in
    let before = pushed (goal.at.returns-clause-best c).In_ok-push-2 ys best less in
    best-as new c.make_heap.new.numbers _ c.make_heap.new.counts _ c.args.k c.args.k
    (written_back c.push.new.self.items c.make_heap.new.numbers c.push.new.self.len (made.len ∙ c.as_mut_slice-2.ensures.len))
    (written_back c.push-2.new.self.items c.make_heap.new.counts c.push-2.new.self.len (made.counts_len ∙ c.as_mut_slice-3.ensures.len))
    refl
    (best-moved new c.args.k (zip us vs) _ made.moved
    (best-as new c.push.new.self.items us c.push-2.new.self.items vs c.args.k c.args.k c.as_mut_slice-2.ensures.value c.as_mut_slice-3.ensures.value refl before))
