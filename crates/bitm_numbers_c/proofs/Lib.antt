mod CodeLemmas
mod RankListLemmas
pub mod CursorLemmas
mod SparseLemmas
mod SparseCodeLemmas
