pub mod Load
pub mod Names
pub mod Network
pub mod Numbered
pub mod Plain
pub mod Tables
