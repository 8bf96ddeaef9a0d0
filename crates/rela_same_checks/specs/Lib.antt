pub mod SameChecks
