pub mod Forms
pub mod LayerChecks
pub mod LayerLaws
pub mod Points
