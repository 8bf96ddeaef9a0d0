pub mod Closed
pub mod Listing
pub mod Sets
pub mod Splitting
pub mod Words
