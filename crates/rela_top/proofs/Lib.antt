pub mod Given
pub mod Points
