pub mod ClaimLaws
pub mod ClaimReports
pub mod Points
