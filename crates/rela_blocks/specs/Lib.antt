pub mod Scenes
pub mod Readable
pub mod RowBlocks
pub mod Blocks
pub mod Alone
pub mod GraphPaths
pub mod FlowName
