pub mod BuildLemmas
pub mod HalfLemmas
pub mod LookLemmas
pub mod PositionLemmas
pub mod QueryLemmas
pub mod ValueLemmas
