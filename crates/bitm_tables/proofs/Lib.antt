pub mod Examples
pub mod lemmas
