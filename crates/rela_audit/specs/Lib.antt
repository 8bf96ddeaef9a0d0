pub mod Audits
pub mod Certifies
