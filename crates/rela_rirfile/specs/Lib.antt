pub mod Depth
pub mod Grammar
pub mod GrammarWords
pub mod Keywords
pub mod ReadFile
pub mod ReadTrees
pub mod ReadWords
