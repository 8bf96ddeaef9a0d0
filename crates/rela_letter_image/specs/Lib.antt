pub mod Branches
pub mod ByLetters
pub mod Coarse
pub mod Growth
pub mod LetterMoves
pub mod Needs
pub mod Product
pub mod Steps
