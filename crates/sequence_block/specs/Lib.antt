pub mod Block
pub mod Error
pub mod SparseBlock
pub mod SparseError
