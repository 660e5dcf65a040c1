-- `as_entries` shares the words as they are: to the logic a `u64` and a `usize` are one type.
use Rattle.std.proofs.Common.{ℕ, List, [], ◌∷◌, length, refl, Bor}
use seplogic.Ra.Ura.{Ura}
use mir.Syntax.{Body, named, seq, assign, place, rv_opd, copy, return}
use mir.Val.{Val}
use base.Logic.{SProp, ent, emp, via, fst∗}
use base.Fml.{Lft, Share, ftrue, flft}
use prog.Memory.{Memory}
use prog.Routine.{Routine}
use prog.Wp.{Env, Calls, Loops, WpFn, Tables}
use types.Logic.{Logic}
use contract.Monad.{Fun}
use contract.Running.{tables, tables_of}
use sound.WpLaws.{WpFn-mono}
use types.Kit.{‵, ◌⊛◌, at_ret, ◌$◌, ◌∵◌, !, qed, move, keep, fsplit, fjoin, suffices, frame, done}
use types.Part.{whole, sub, agg}
use types.Run.{load, stop, fld, hop, from, addr, of_opd, and_then, no_more, first, blocks, exec, returns, enter}
use types.ByLocal.{alloc_all, pass_all, free_all, look_at, look_in_at, get, sets, sets_last, env}
use denote.Builtin.{u64}
use denote.Exit.{yes}
use denote.RattleType.{owns}
use denote.Signature.{plain, shr_slice_of}
use denote.Slice.{ShrSlice, Room, slice_val, shr_slice_vals, shr_slice_Tells}
use denote.Steps.{nothing}
use denote.Triple.Clauses.{Clauses}
use denote.Triple.Entry.{on_entry}
use denote.Triple.Spec.{Meets, triple_of}
use denote.Triple.Table.{entered}
use denote.Triple.Walked.{says, Stays, stay_dropped, walk_of, ends_at, walked, Goes-dropped, walk_Meets}
use Rattle.block_tables.specs.contracts.entries.as_entries.Key.{name as #self}
use Rattle.block_tables.specs.contracts.entries.as_entries as F
use Rattle.block_tables.proofs.entries.as_entries.Statement as stated
use Rattle.block_tables.proofs.entries.as_entries.Code as code

abbrev stayed : Stays (F.ended).signature.params (F.ended).kept
stayed = (stay_dropped (shr_slice_of (0 ∷ []) tt (plain (λ _. u64))) yes, tt)

-- the MIR after the `unsafe` block: its value goes to the result
abbrev rest : Body
rest = seq (assign (place 0 []) (rv_opd (copy (place 2 [])))) return

module _ {M : Type 1} {𝓤 : Ura M} (𝓛 : Logic 𝓤) (at_mem : Memory → SProp 𝓤) (run : Routine → Fun 𝓤) where
  open 𝓛 use {H}

  abbrev clauses : Clauses 𝓤 F.ended
  clauses = F.clauses 𝓛 at_mem run

  module _ (C : Calls 𝓤 H) (Λ : Loops 𝓤 H) (κ : Lft) (q : Share) (b o : ℕ) (xs : List ℕ) where
    abbrev words : Bor (List ℕ)
    words = record { ref_ptr = (b, o); now = xs }

    abbrev bound : (walk_of 𝓛 F.ended stayed clauses).Ghost
    bound = (((κ, tt), (q, tt), tt, (words, tt), (shr_slice_vals words, tt)), tt)

    abbrev Post : Val → SProp 𝓤
    Post = (walk_of 𝓛 F.ended stayed clauses).post bound

    walk : Room u64 (length xs)
        → ent 𝓤 (on_entry 𝓛 F.signature (κ, tt) (q, tt) (words, tt) (shr_slice_vals words, tt)) (WpFn 𝓤 H C Λ code.function (slice_val (b, o) (length xs) ∷ []) Post)
    walk room =
        qed 𝓛 ((‵ (flft κ q) ⊛ ‵ ftrue) ∷ ‵ (owns (ShrSlice (named 0) κ u64 ∷ []) (words, tt) (shr_slice_vals words, tt)) ∷ []) ∵
        enter ! C Λ code.function (slice_val (b, o) (length xs) ∷ []) _ $
        alloc_all ! (λ l. pass_all ! refl ((tt, (tt, (record { fits = room.0 }, tt))), tt) $
        let En : Env 𝓤 H = env (code.function).locals l in
        first ! $ blocks ! $
        -- words.as_ptr()
        sets ! (addr ! (from ! (fld ! refl (hop ! (look_in_at ! 1 (sub ! 0 refl (whole !))) (stop !))))) refl (tt, tt) $
        -- words.len()
        sets ! (of_opd ! (load ! (from ! (fld ! refl (stop !))) (look_in_at ! 1 (sub ! 1 refl (whole !))))) refl (tt, record { fits = room.0 }) $
        sets_last ! (agg ! (and_then ! (get ! refl) (and_then ! (get ! refl) (no_more !)))) refl (tt, (tt, (record { fits = room.0 }, tt))) $
        exec ! C Λ En rest (at_ret En Post) $
        sets ! (of_opd ! (get ! refl)) refl (tt, (tt, (record { fits = room.0 }, tt))) $
        move ! (1 ∷ []) $ fsplit ! $
        returns ! (look_at ! 0 refl) $ free_all ! refl $ keep ! (2 ∷ 0 ∷ []) $
        suffices ! _ (ends_at 𝓛 F.ended stayed clauses bound (slice_val (b, o) (length xs)) words (tt, tt) (tt, tt)) $ says ! refl $
        frame ! $ nothing ! $ nothing ! $ fjoin ! $ done !)

  meets : (𝓣 : Tables 𝓤 H) → Meets 𝓛 F.signature (WpFn 𝓤 H 𝓣.C 𝓣.Λ code.function) (F.spec 𝓛 at_mem run)
  meets 𝓣 =
      walk_Meets 𝓛 F.ended stayed (Goes-dropped 𝓛 1 (shr_slice_of (0 ∷ []) tt (plain (λ _. u64))) yes (λ κs x f. refl), tt) clauses
      (WpFn 𝓤 H 𝓣.C 𝓣.Λ code.function) (WpFn-mono 𝓤 H 𝓛.laws 𝓣 code.function)
      (walked 𝓛 F.ended stayed clauses (WpFn 𝓤 H 𝓣.C 𝓣.Λ code.function) (λ κs. (shr_slice_vals, tt)) (λ κs. (shr_slice_Tells (named 0) κs.0 u64, tt))
      (λ κs qs bounds a g are. via 𝓤 _ (fst∗ 𝓤 (on_entry 𝓛 F.signature κs qs a (shr_slice_vals a.0, tt)) (emp 𝓤)) (walk 𝓣.C 𝓣.Λ κs.0 qs.0 a.0.ref_ptr.0 a.0.ref_ptr.1 a.0.now are.0.0.1)))

pub as_entries_spec : {M : Type 1} → stated.statement M
unfolding tables_of
as_entries_spec 𝓤 𝓛 𝓜 𝓡 wired =
    entered 𝓤 𝓛.H (triple_of 𝓛 F.signature (F.spec 𝓛 𝓜.mem 𝓡.returns))
    (tables 𝓤 𝓛.H 𝓜 𝓡 𝓡.env).C (tables 𝓤 𝓛.H 𝓜 𝓡 𝓡.env).Λ #self code.function (code.unfolded 𝓤 𝓛.H 𝓜 𝓡 wired)
    (meets 𝓛 𝓜.mem 𝓡.returns (tables_of 𝓤 𝓛.H 𝓜 (tables 𝓤 𝓛.H 𝓜 𝓡 𝓡.env)))
