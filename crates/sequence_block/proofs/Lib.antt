pub mod BlockLemmas
pub mod CheckLemmas
