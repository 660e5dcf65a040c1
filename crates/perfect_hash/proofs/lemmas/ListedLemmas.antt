-- The numbers of a list of hashes, by their positions and the ranks of these.
use Rattle.std.proofs.Common.{◌≡◌, ◌≢◌, ℕ, ◌+◌, ◌*◌, ◌-◌, ◌^◌, ◌<◌, ◌≤◌, Bool, true, List, length, take, Option, Some, None, inl, inr, refl, sym, ap, ◌∙◌, subst, arith}
use Rattle.std.proofs.lemmas.Bool.{cases_eq, cases_lt}
use Rattle.std.proofs.lemmas.List.{take_all}
use Rattle.std.specs.List.{sum}
use Rattle.std.specs.Option.{option_map, IfSome}
use Rattle.bit_lists.proofs.lemmas.BitsLemmas.{length-bits_of}
use Rattle.bit_lists.specs.Count.{ones_before}
use Rattle.bitm_select.specs.Answers.{IsRankCode}
use Rattle.bitm_tables.specs.Tables.{HasSizes, HasTables, Lists, bits_in}
use Rattle.bitm_tables.specs.declared.answer.Answer.TheVariants.{Found, Absent, Wrong}
use Rattle.perfect_hash.specs.Levels.{fall_in, position_from}
use Rattle.perfect_hash.specs.Numbers.{AreSizes}
use Rattle.perfect_hash.proofs.lemmas.LevelLemmas.{FallsInside}
use Rattle.perfect_hash.proofs.lemmas.NumberLemmas.{IsOneBefore, position_from-one}
use Rattle.perfect_hash.specs.Listed.{IsCode, IsCodeAt, IsNumberClaimed}
use Rattle.perfect_hash.specs.Many.{number_code, AreLevelsInside}
use Rattle.perfect_hash.specs.Placed.{FitIn}
use Rattle.perfect_hash.proofs.lemmas.GetLemmas.{one_counted, sizes_fit}

-- levels that fit the words are inside their bits
pub inside_words : (lists : Lists) (sizes : List ℕ) → HasSizes lists → FitIn (length lists.words) sizes → length sizes ≤ 256
    → AreLevelsInside sizes (bits_in lists)
inside_words lists sizes sized fit few = record {
  some = fit.some;
  within = omega (arith, fit.within, length-bits_of lists.words);
  few = few;
  short = omega (arith, sized.short, length-bits_of lists.words);
}

-- the code of a position's rank
module _ (lists : Lists) (sized : HasSizes lists) (count absent position rank code : ℕ) (ranked : IsRankCode true lists position rank)
    (is : IsCode position rank count absent code) where
  coded : (o : Option ℕ) → IfSome o (IsOneBefore (bits_in lists) (length (bits_in lists))) → position ≡ number_code o → IsCodeAt o count absent lists code
  coded None one same = is.none same
  coded (Some p) one same =
      let b = bits_in lists in
      let long : length b < 2 ^ 64 = omega (arith, sized.short, length-bits_of lists.words) in
      let here : position ≢ 2 ^ 64 - 1 = (λ none. omega (arith, none, same, one.1, long)) in
      let right : HasTables lists → rank ≡ ones_before b p =
      λ t. (ranked.count t (omega (arith, same, one.1))).1 ∙ ap (ones_before b) same in
      elim (cases_lt rank count) [
        | inl below ↦
            let e = is.below here below in (
              inl (omega (arith, e, below)),
              λ t few. (omega (arith, e, below), e ∙ right t),
            )
        | inr above ↦ (
          inr (is.wrong here above),
          λ t few. absurd (omega (arith, right t, one_counted b p one.0, few, above)),
        )
      ]

-- of a hash by where it falls
pub coded_hash : (lists : Lists) (fall : ℕ → ℕ → ℕ → ℕ) (falls : FallsInside fall) (sizes : List ℕ) (hash count absent position rank code : ℕ) → HasSizes lists
    → AreLevelsInside sizes (bits_in lists) → position ≡ number_code (position_from (fall hash) (bits_in lists) 0 0 sizes) → IsRankCode true lists position rank
    → IsCode position rank count absent code → IsCodeAt (position_from (fall hash) (bits_in lists) 0 0 sizes) count absent lists code
coded_hash lists fall falls sizes hash count absent position rank code sized inside same ranked is =
    let b = bits_in lists in
    let P : Option ℕ → ℕ → Type 0 = λ o end. IfSome o (IsOneBefore b end) in
    coded lists sized count absent position rank code ranked is (position_from (fall hash) b 0 0 sizes)
    (one_more b (position_from (fall hash) b 0 0 sizes) (0 + 64 * sum sizes) (length b) (omega (arith, inside.within))
    (position_from-one (fall hash) (falls hash) b 0 0 (0 + 64 * sum sizes) sizes refl inside.some)) same
  where
    one_more : (b : List Bool) (o : Option ℕ) (end last : ℕ) → end ≤ last → IfSome o (IsOneBefore b end) → IfSome o (IsOneBefore b last)
    one_more b None end last more one = tt
    one_more b (Some p) end last more one = (one.0, omega (arith, one.1, more))

-- what the code says of the number, where all levels are inside, and where a size is not that of a level
module _ (by : ℕ → ℕ → ℕ → ℕ → ℕ) (sizes : List ℕ) (count : ℕ) (lists : Lists) (hash n : ℕ) (most : count ≤ 2 ^ 64 - 2) where
  whole : (o : Option ℕ) → position_from (fall_in by sizes hash) (bits_in lists) 0 0 sizes ≡ o → FitIn (length lists.words) sizes
      → IsCodeAt o count (2 ^ 64 - 1) lists n → IsNumberClaimed by sizes count lists hash n
  whole None e fit is = record {
    answer = Absent;
    claimed = is;
    is = record {
      below = tt;
      number = λ t are few. ap (option_map (ones_before (bits_in lists))) e;
      fit = fit;
      none = ap (option_map (ones_before (bits_in lists))) e;
    };
  }
  whole (Some p) e fit is =
      let b = bits_in lists in
      elim is.0 [
        | inl below ↦ record {
          answer = Found n;
          claimed = refl;
          is = record {
            below = below;
            number = λ t are few. ap (option_map (ones_before b)) e ∙ ap Some (sym (is.1 t few).1);
            fit = tt;
            none = tt;
          };
        }
        | inr wrong ↦ record {
          answer = Wrong;
          claimed = wrong;
          is = record {
            below = tt;
            number = λ t are few. absurd (omega (arith, (is.1 t few).0, wrong, most));
            fit = tt;
            none = tt;
          };
        }
      ]

  part : (o : Option ℕ) → (FitIn (length lists.words) sizes → ⊥) → IsCodeAt o count (2 ^ 64 - 2) lists n → IsNumberClaimed by sizes count lists hash n
  part o not is =
      let never : AreSizes sizes (bits_in lists) → ⊥ = λ are. not (sizes_fit sizes (bits_in lists) (length lists.words) are (length-bits_of lists.words)) in
      found o never is
    where
      wrong : n ≡ 2 ^ 64 - 2 → (AreSizes sizes (bits_in lists) → ⊥) → IsNumberClaimed by sizes count lists hash n
      wrong e never = record {
        answer = Wrong;
        claimed = e;
        is = record {
          below = tt;
          number = λ t are few. absurd (never are);
          fit = tt;
          none = tt;
        };
      }

      found : (o : Option ℕ) → (AreSizes sizes (bits_in lists) → ⊥) → IsCodeAt o count (2 ^ 64 - 2) lists n → IsNumberClaimed by sizes count lists hash n
      found None never is = wrong is never
      found (Some p) never is =
          elim is.0 [
            | inl below ↦ record {
              answer = Found n;
              claimed = refl;
              is = record {
                below = below;
                number = λ t are few. absurd (never are);
                fit = tt;
                none = tt;
              };
            }
            | inr e ↦ wrong e never
          ]

  -- by how many levels are inside
  pub number_claimed : (levels absent : ℕ) → (FitIn (length lists.words) sizes → levels ≡ length sizes) → FitIn (length lists.words) (take levels sizes)
      → (levels ≡ length sizes → absent ≡ 2 ^ 64 - 1) → (levels ≢ length sizes → absent ≡ 2 ^ 64 - 2)
      → IsCodeAt (position_from (fall_in by (take levels sizes) hash) (bits_in lists) 0 0 (take levels sizes)) count absent lists n
      → IsNumberClaimed by sizes count lists hash n
  number_claimed levels absent all fit none wrong is =
      let o : List ℕ → Option ℕ = λ s. position_from (fall_in by s hash) (bits_in lists) 0 0 s in
      elim (cases_eq levels (length sizes)) [
        | inl e ↦
            let same : take levels sizes ≡ sizes = take_all levels sizes (omega (arith, e)) in
            whole (o sizes) refl (subst (FitIn (length lists.words)) same fit)
            (subst (λ (a : ℕ). IsCodeAt (o sizes) count a lists n) (none e) (subst (λ (s : List ℕ). IsCodeAt (o s) count absent lists n) same is))
        | inr not ↦
            part (o (take levels sizes)) (λ fits. not (all fits))
            (subst (λ (a : ℕ). IsCodeAt (o (take levels sizes)) count a lists n) (wrong not) is)
      ]
