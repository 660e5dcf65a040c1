-- Which failure names which line.
use Rattle.std.proofs.Common.{◌≡◌, ℕ, List, None, sym, subst, inl, inr}
use Rattle.program_base.specs.List.{numbers_in_lines, wrong_line, IsListError}
use Rattle.program_base.specs.declared.text.list.ListError.{ListError}
use Rattle.program_base.specs.declared.text.list.ListError.TheVariants as list
use Rattle.program_files.specs.Building.{first_out, IsTextFailure}
use Rattle.program_files.specs.Failure.{failure_of, IsBlockFailure}
use Rattle.program_files.specs.declared.blocks.failure.Failure.{Failure}
use Rattle.program_files.specs.declared.blocks.kind.Kind.{Kind}

pub line_named : (kind : Kind) (text : List ℕ) (e : ListError) (f : Failure) → IsListError text e → f ≡ failure_of e → IsTextFailure kind text f
line_named kind text (list.WrongLine line) f h k = subst (λ e. IsTextFailure kind text e) (sym k) h
line_named kind text list.NoMemory f h k = subst (λ e. IsTextFailure kind text e) (sym k) h

pub no_block : (kind : Kind) (text : List ℕ) (e : Failure) → wrong_line text ≡ None → first_out kind text ≡ None → IsBlockFailure kind (numbers_in_lines text) e
    → IsTextFailure kind text e
no_block kind text e h o (inl k) = subst (λ e. IsTextFailure kind text e) (sym k) (h, o)
no_block kind text e h o (inr (inl k)) = subst (λ e. IsTextFailure kind text e) (sym k) h
no_block kind text e h o (inr (inr k)) = subst (λ e. IsTextFailure kind text e) (sym k.0) (h, k.1, k.2)
