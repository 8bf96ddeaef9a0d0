pub mod DrawLaws
pub mod Points
