pub mod lemmas
pub mod Callers
