-- What callers name: in an attribute `ones_of_word`, the condition of `select64` after a test (the ones that a
-- processor counts in a word are those among its 64 bits), in answers also the others.
pub use Rattle.broadword.proofs.lemmas.InWordLemmas.{ones_of_word, rank_in_word}
pub use Rattle.broadword.proofs.lemmas.LeBytesLemmas.{small_le, sums_at}
pub use Rattle.broadword.proofs.lemmas.SelectLemmas.{sums_small}
