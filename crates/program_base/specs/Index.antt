-- What an index is built over, and its kind.
use Rattle.std.specs.Prelude.{ℕ, List}
use Rattle.std.specs.Box.{boxed_slice_items}
use Rattle.program_base.specs.declared.session.command.Kind.{Kind}
use Rattle.program_base.specs.declared.session.command.Kind.TheVariants as kind
use Rattle.program_base.specs.declared.session.index.Index.{Index}
use Rattle.program_base.specs.declared.session.index.Index.TheVariants.{Simple, Binary, Sampled}

-- the words that it is built over
abbrev pub indexed_words : Index → List ℕ
indexed_words (Simple rank) = boxed_slice_items rank
indexed_words (Binary index) = boxed_slice_items index.content
indexed_words (Sampled index) = boxed_slice_items index.content

abbrev pub kind_of_index : Index → Kind
kind_of_index (Simple rank) = kind.Simple
kind_of_index (Binary index) = kind.Binary
kind_of_index (Sampled index) = kind.Sampled
