-- What was written holds the tree.
use Rattle.std.proofs.Common.{◌≡◌, ℕ, length, ap, sym, arith, subst, List, false, refl}
use Rattle.std.proofs.lemmas.List.{length-replicate}
use Rattle.bit_lists.specs.Bits.{bits_of, item}
use Rattle.bit_lists.proofs.BitLaws.{bits_are_counted, zeros_have_no_ones}
use Rattle.bitm_selection.specs.Hints.{Lead}
use Rattle.bitm_tables.specs.Tables.{Lists}
use Rattle.louds.proofs.lemmas.HeldLemmas.{degrees_of-is, held, held_degrees}
use Rattle.louds.specs.Held.{tree_words, IsHeld}
use Rattle.tree_block.proofs.building.write_tree.Goals as goal

pub write_degrees-requires-clause-clear : goal.write_degrees-requires-clause-clear
write_degrees-requires-clause-clear c =
    subst (λ (ws : List ℕ). (p : ℕ) → item (bits_of ws) p ≡ false) (sym c.requires.clear)
    (λ p. zeros_have_no_ones (tree_words (length c.args.degrees.now)) p)

pub returns : goal.returns
returns c =
    let d = c.args.degrees.now in
    let ws = c.write_degrees.new.words in
    let n = length d in
    let len : length ws ≡ tree_words n = omega (arith, c.write_degrees.auto.words, ap length c.requires.clear, length-replicate {A = ℕ} (tree_words n) 0) in
    let h : IsHeld d n (bits_of ws) =
    held d n (bits_of ws) c.requires.tree refl c.requires.short c.write_degrees.ensures (omega (arith, bits_are_counted ws, len)) in
    record {
      words_len = len;
      upper_len = omega (arith, c.fill_tables.auto.upper, c.requires.upper);
      lower_len = omega (arith, c.fill_tables.auto.lower, c.requires.lower);
      louds = record {
        indexed = record { tables = c.fill_tables.ensures.tables; short = c.fill_tables.ensures.sizes.short };
        held = held_degrees d n (bits_of ws) h;
      };
      hints_len = omega (arith, c.write_hints.ensures.len, c.requires.hints);
      degrees_are = degrees_of-is d n (bits_of ws) h;
      lead = subst (λ (l : Lists). Lead n c.write_hints.new.hints l.words) c.probe.ensures.lists c.write_hints.ensures.lead;
    }
