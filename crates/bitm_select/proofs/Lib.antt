pub mod Callers
pub mod lemmas
