pub mod Distinct
pub mod FlowLaws
pub mod Indexes
pub mod Keys
pub mod Kept
pub mod Levels
pub mod Loops
pub mod PairLaws
pub mod PairLoops
pub mod PartnerLaws
pub mod Places
pub mod PlainLaws
pub mod PlainLoops
mod Refusing
pub mod SameClass
pub mod StepLaws
