pub mod BitLaws
pub mod Callers
pub mod lemmas
