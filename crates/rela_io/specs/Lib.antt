pub mod Bytes
pub mod Calls
pub mod Count
pub mod Disk
pub mod Held
pub mod MemoryFiles
pub mod MemoryFilesInside
pub mod MemorySink
