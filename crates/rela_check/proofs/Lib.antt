pub mod CheckLaws
pub mod BlameLaws
pub mod Points
