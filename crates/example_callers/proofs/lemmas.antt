pub mod BetweenLemmas
pub mod InvertedLemmas
pub mod ListLemmas
pub mod PrimeLemmas
pub mod SieveLemmas
