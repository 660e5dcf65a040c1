-- What callers name in an attribute: tables that are those of the words have the right lengths.
pub use Rattle.bitm_tables.proofs.lemmas.LengthLemmas.{sizes_of}
