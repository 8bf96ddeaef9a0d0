pub use Rattle.serde_json.specs.Data
pub use Rattle.serde_json.specs.Read
pub use Rattle.serde_json.specs.Find
pub mod Holds
pub mod Objects
pub mod Pieces
pub mod Reading
