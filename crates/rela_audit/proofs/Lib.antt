pub mod PlanLaws
pub mod Points
pub mod AuditLaws
pub mod CertifyLaws
