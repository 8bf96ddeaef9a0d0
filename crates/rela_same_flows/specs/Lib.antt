pub mod SameFlows
