-- Parts with hints are those parts, and no hints lead anywhere.
use Rattle.std.proofs.Common.{◌≡◌, ℕ, Bool, List, [], length, arith}
use Rattle.std.proofs.lemmas.List.{length-take}
use Rattle.std.proofs.Math.ListN.{length-drop}
use Rattle.bitm_selection.specs.Hints.{hint_words, AreHints, Lead}
use Rattle.bitm_tables.specs.Tables.{Lists}
use Rattle.elias_fano.specs.SequenceParts.{parts_with, with_hints, Holds}
use Rattle.elias_fano.specs.Low.{Lows}

no_hints : (v : Bool) (words hints : List ℕ) → length hints ≡ 0 → AreHints v words hints
no_hints v words hints none = record {
  short = λ some. absurd (omega (arith, some));
  pairs = λ k less. absurd (omega (arith, less));
}

pub none_lead : (n : ℕ) (words : List ℕ) → Lead n [] words
none_lead n words =
    let none : List ℕ = [] in
    record {
      of_ones = no_hints _ words _ (omega (arith, length-take (hint_words n) none));
      of_zeros = no_hints _ words _ (omega (arith, length-drop (hint_words n) none));
    }

module _ (n : ℕ) (low : Lows) (lists : Lists) (hints : List ℕ) where
  pub holds_without : (xs : List ℕ) → Holds xs (with_hints hints (parts_with n low lists)) → Holds xs (parts_with n low lists)
  holds_without xs h = record { are = h.are; tables = h.tables; lead = none_lead n lists.words }
