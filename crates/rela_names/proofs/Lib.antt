pub mod Ascending
pub mod ShortlexLaws
pub mod SymbolsInOrder
