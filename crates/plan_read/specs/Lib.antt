pub mod Plan
pub mod PlanLaws
pub mod PlanTheorems
pub mod Cases
