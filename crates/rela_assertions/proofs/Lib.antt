pub mod Zips
pub mod ValueLaws
pub mod RowLaws
pub mod SameTerms
pub mod AgreementLaws
