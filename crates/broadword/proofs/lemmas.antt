pub mod AtMostLemmas
pub mod ByteLemmas
pub mod ByteSumLemmas
pub mod FieldLemmas
pub mod InWordLemmas
pub mod LeBytesLemmas
pub mod LowBytes
pub mod SelectLemmas
