pub mod FlowBits
pub mod Leaves
pub mod Selections
pub mod PlanSteps
pub mod PlanLaws
pub mod OnePlan
pub mod Looks
