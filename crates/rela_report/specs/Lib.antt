pub mod Text
pub mod Status
pub mod Blamed
pub mod Counted
pub mod Written
pub use Rattle.rela_names.specs.Symbol
pub use Rattle.rela_names.specs.Alphabet
