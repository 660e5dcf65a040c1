pub mod ChecksumLemmas
pub mod LayoutLemmas
pub mod HeaderLemmas
pub mod WrittenLemmas
pub mod SealedLemmas
pub mod PartsLemmas
