pub mod StepLaws
pub mod Places
pub mod Loops
pub mod WalkLaws
pub mod PrefixLaws
pub mod Kept
pub mod PlainLaws
pub mod Refusing
