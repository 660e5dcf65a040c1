pub mod BlockLemmas
pub mod CodeLemmas
pub mod CutLemmas
pub mod NearLemmas
pub mod BitsBlockLemmas
