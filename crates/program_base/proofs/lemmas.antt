pub mod LineLemmas
pub mod NumeralLemmas
pub mod SessionLineLemmas
pub mod SessionLemmas
