pub mod Alphabet
pub mod Name
pub mod Shortlex
pub mod Symbol
pub mod formers
