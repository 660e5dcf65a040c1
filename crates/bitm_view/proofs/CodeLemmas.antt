-- What the numbers of a list say of the answers.
use Rattle.std.proofs.Common.{◌≡◌, ℕ, ◌-◌, ◌^◌, ◌<◌, ◌≤◌, Bool, length, if◌then◌else◌, nat_eq, ap, inl, inr, ne_eqb, subst, sym, ◌∙◌, arith}
use Rattle.std.proofs.lemmas.Bool.{cases_eq, cases_lt}
use Rattle.std.proofs.lemmas.List.{length-take-le}
use Rattle.bit_lists.proofs.lemmas.BitsLemmas.{length-bits_of}
use Rattle.bit_lists.specs.Count.{count_of}
use Rattle.bitm_select.specs.Answers.{IsRankCode, IsSelectCode}
use Rattle.bitm_tables.specs.Tables.{bits_in}
use Rattle.bitm_tables.specs.declared.answer.Answer.{Answer}
use Rattle.bitm_tables.specs.declared.answer.Answer.TheVariants.{Found, Absent, Wrong}
use Rattle.bitm_view.proofs.CutLemmas.{cut_counted, cut_found, cut_none, cut_past, cut_wrong}
use Rattle.bitm_view.specs.Cut.{Cut, IsSizedCut}
use Rattle.bitm_view.specs.Queries.{ranked_by, selected_by, RanksIn, SelectsIn}
use Rattle.tables_view.specs.Counting.{Selects}

-- a number that is no code stands for itself
pub selected_position : (n : ℕ) → n < 2 ^ 64 - 2 → selected_by n ≡ Found n
selected_position n below =
    ap (λ (e : Bool). if e then Absent else if nat_eq n (2 ^ 64 - 2) then Wrong else Found n)
    (ne_eqb n (2 ^ 64 - 1) (λ e. omega (arith, e, below)))
    ∙ ap (λ (e : Bool). if e then Wrong else Found n) (ne_eqb n (2 ^ 64 - 2) (λ e. omega (arith, e, below)))

module _ (v : Bool) (c : Cut) (sized : IsSizedCut c) where
  -- no position and no count of the words is a code
  few : (n : ℕ) → n ≤ length (bits_in c.lists) → n < 2 ^ 64 - 2
  few n inside = omega (arith, inside, length-bits_of c.lists.words, sized.sizes.short)

  pub rank_past : (i : ℕ) → c.len < i → RanksIn v c i Absent
  rank_past i past = record { within = past; counts = λ t. omega (arith, past, length-take-le c.len (bits_in c.lists) sized.within) }

  pub rank_said : (i : ℕ) → i ≤ c.len → (n : ℕ) → IsRankCode v c.lists i n → n < 2 ^ 64 → RanksIn v c i (ranked_by n)
  rank_said i inside n claimed fits =
      let within : i ≤ length (bits_in c.lists) = omega (arith, inside, sized.within) in
      elim (cases_lt n (2 ^ 64 - 2)) [
        | inl below ↦
            subst (λ (r : Answer ℕ). RanksIn v c i r) (sym (selected_position n below))
            (cut_counted v c sized.within i inside (Found n)
            (record { within = (within, claimed.most below); counts = λ t. (within, (claimed.count t within).1) }))
        | inr above ↦
            elim (cases_eq n (2 ^ 64 - 1)) [
              | inl e ↦ absurd (omega (arith, claimed.none.0 e, within))
              | inr not ↦
                  let e : n ≡ 2 ^ 64 - 2 = omega (arith, fits, above, not) in
                  subst (λ (m : ℕ). RanksIn v c i (ranked_by m)) (sym e)
                  (record { within = inside; counts = λ t. omega (arith, (claimed.count t within).0, e) })
            ]
      ]

  module _ (r n : ℕ) (claimed : IsSelectCode v c.lists r n) where
    -- a position that was found
    position : n < 2 ^ 64 - 2 → Selects v c.lists r (Found n)
    position below = record {
      bit = claimed.bit below;
      counts =
          λ t.
          elim (cases_lt r (count_of (bits_in c.lists) v)) [
            | inl some ↦ claimed.some t some
            | inr past ↦ absurd (omega (arith, claimed.none t past, below))
          ];
      absent = tt;
    }

    pub position_said : n < c.len → SelectsIn v c r (selected_by n)
    position_said inside =
        let below = few n (omega (arith, inside, sized.within)) in
        subst (λ (s : Answer ℕ). SelectsIn v c r s) (sym (selected_position n below)) (cut_found v c sized.within r n inside (position below))

    pub past_said : c.len ≤ n → n < 2 ^ 64 - 2 → SelectsIn v c r Absent
    past_said behind below = cut_past v c sized.within r n behind (position below)

    none : n ≡ 2 ^ 64 - 1 → Selects v c.lists r Absent
    none e = record {
      bit = tt;
      counts =
          λ t.
          elim (cases_lt r (count_of (bits_in c.lists) v)) [
            | inl some ↦ absurd (omega (arith, few n (omega (arith, (claimed.some t some).inside)), e))
            | inr past ↦ past
          ];
      absent = claimed.absent e;
    }

    wrong : n ≡ 2 ^ 64 - 2 → Selects v c.lists r Wrong
    wrong e = record {
      bit = tt;
      counts =
          λ t.
          elim (cases_lt r (count_of (bits_in c.lists) v)) [
            | inl some ↦ absurd (omega (arith, few n (omega (arith, (claimed.some t some).inside)), e))
            | inr past ↦ absurd (omega (arith, claimed.none t past, e))
          ];
      absent = tt;
    }

    pub code_said : n < 2 ^ 64 → 2 ^ 64 - 2 ≤ n → SelectsIn v c r (selected_by n)
    code_said fits above =
        elim (cases_eq n (2 ^ 64 - 1)) [
          | inl e ↦ subst (λ (m : ℕ). SelectsIn v c r (selected_by m)) (sym e) (cut_none v c sized.within r (none e))
          | inr not ↦
              let e : n ≡ 2 ^ 64 - 2 = omega (arith, fits, above, not) in
              subst (λ (m : ℕ). SelectsIn v c r (selected_by m)) (sym e) (cut_wrong v c sized.within r (wrong e))
        ]
