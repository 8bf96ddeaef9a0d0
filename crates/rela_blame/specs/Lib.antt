pub mod Units
pub mod Alternatives
pub mod Written
pub mod Leads
pub mod Tables
pub mod Zones
