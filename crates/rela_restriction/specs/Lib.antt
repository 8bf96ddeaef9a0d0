pub mod Acts
pub mod Automata
pub mod Emptiness
pub mod Excess
