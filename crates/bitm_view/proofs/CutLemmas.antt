-- The first items of a list of bits: their counts are those of all, and a position that all have is one of
-- them or behind them.
use Rattle.std.proofs.Common.{◌≡◌, ℕ, ◌+◌, ◌<◌, ◌≤◌, Bool, true, false, List, length, take, inl, inr, sym, ap, ◌∙◌, arith}
use Rattle.std.proofs.lemmas.List.{get_or-take, length-take-le}
use Rattle.bit_lists.proofs.lemmas.CutLemmas.{same_count}
use Rattle.bit_lists.proofs.lemmas.CountLemmas.{count_before-le, ones_before-add-zeros_before}
use Rattle.bit_lists.specs.Bits.{item}
use Rattle.bit_lists.specs.Count.{count_before, count_of, Picks}
use Rattle.bitm_tables.specs.Tables.{bits_in}
use Rattle.bitm_tables.specs.declared.answer.Answer.TheVariants.{Found, Absent, Wrong}
use Rattle.bitm_view.specs.Cut.{Cut, bits_of_cut, IsWithin}
use Rattle.bitm_view.specs.Queries.{RanksIn, SelectsIn}
use Rattle.tables_view.specs.Counting.{Ranks, Selects}
use Rattle.tables_view.specs.Ranks.{IsRanked}
use Rattle.bitm_tables.specs.declared.answer.Answer.{Answer}

module _ (b : List Bool) (v : Bool) (len : ℕ) (within : len ≤ length b) where
  long : length (take len b) ≡ len
  long = length-take-le len b within

  -- counts before a position of them
  cut_count : (i : ℕ) → i ≤ len → count_before (take len b) v i ≡ count_before b v i
  cut_count i inside =
      same_count (take len b) b v i (omega (arith, inside, long)) (omega (arith, inside, within))
      (λ j h. get_or-take len b j _ (omega (arith, h, inside)))

  -- all of them
  pub cut_total : count_of (take len b) v ≡ count_before b v len
  cut_total = ap (count_before (take len b) v) long ∙ cut_count len (omega arith)

  -- a position before their end
  cut_bit : (p : ℕ) → p < len → item b p ≡ v → (p < length (take len b)) × (item (take len b) p ≡ v)
  cut_bit p inside is = (omega (arith, inside, long), get_or-take len b p _ inside ∙ is)

  cut_pick : (r p : ℕ) → p < len → Picks b v r p → Picks (take len b) v r p
  cut_pick r p inside picked = record {
    inside = (cut_bit p inside picked.item).0;
    item = (cut_bit p inside picked.item).1;
    before = cut_count p (omega (arith, inside)) ∙ picked.before;
  }

  -- a position behind them has no fewer before it than they have
  cut_behind : (r p : ℕ) → len ≤ p → Picks b v r p → count_of (take len b) v ≤ r
  cut_behind r p behind picked = omega (arith, cut_total, count_before-le b v len p behind, picked.before)

  -- where all have no more, they have no more
  cut_absent : (r : ℕ) → count_of b v ≤ r → count_of (take len b) v ≤ r
  cut_absent r few = omega (arith, cut_total, count_before-le b v len (length b) within, few)

  -- what is counted among all is counted among them
  cut_ranked : (i : ℕ) → i ≤ len → (r : Answer ℕ) → IsRanked b v i r → IsRanked (take len b) v i r
  cut_ranked i inside (Found n) answer = (omega (arith, inside, long), answer.1 ∙ sym (cut_count i inside))
  cut_ranked i inside Absent answer = absurd (omega (arith, answer, inside, within))
  cut_ranked i inside Wrong answer = answer

-- the bits of a bit vector are 1 bits and 0 bits
pub both : (c : Cut) → IsWithin c → count_of (bits_of_cut c) true + count_of (bits_of_cut c) false ≡ c.len
both c within =
    ones_before-add-zeros_before (bits_of_cut c) (length (bits_of_cut c)) (omega arith) ∙ length-take-le c.len (bits_in c.lists) within

module _ (v : Bool) (c : Cut) (within : IsWithin c) where
  -- a count among all is one among them, of no more than they are
  pub cut_counted : (i : ℕ) → i ≤ c.len → (r : Answer ℕ) → Ranks v c.lists i r → RanksIn v c i r
  cut_counted i inside (Found n) is = record {
    within = (inside, is.within.1);
    counts = λ t. cut_ranked (bits_in c.lists) v c.len within i inside (Found n) (is.counts t);
  }
  cut_counted i inside Absent is = absurd (omega (arith, is.within, inside, within))
  cut_counted i inside Wrong is = record { within = inside; counts = λ t. is.counts t }

  module _ (r : ℕ) where
    -- a position before their end is one of theirs
    pub cut_found : (p : ℕ) → p < c.len → Selects v c.lists r (Found p) → SelectsIn v c r (Found p)
    cut_found p inside is = record {
      bit = cut_bit (bits_in c.lists) v c.len within p inside is.bit.1;
      counts = λ t. cut_pick (bits_in c.lists) v c.len within r p inside (is.counts t);
      absent = tt;
    }

    -- one behind it says that they have no more
    pub cut_past : (p : ℕ) → c.len ≤ p → Selects v c.lists r (Found p) → SelectsIn v c r Absent
    cut_past p behind is = record {
      bit = tt;
      counts = λ t. cut_behind (bits_in c.lists) v c.len within r p behind (is.counts t);
      absent = inr (record { position = p; behind = behind; inside = is.bit.0; bit = is.bit.1 });
    }

    -- and so does none among all
    pub cut_none : Selects v c.lists r Absent → SelectsIn v c r Absent
    cut_none is = record {
      bit = tt;
      counts = λ t. cut_absent (bits_in c.lists) v c.len within r (is.counts t);
      absent = inl is.absent;
    }

    pub cut_wrong : Selects v c.lists r Wrong → SelectsIn v c r Wrong
    cut_wrong is = record { bit = tt; counts = λ t. is.counts t; absent = tt }
