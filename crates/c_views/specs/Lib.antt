pub mod Views
pub mod ViewLaws
pub mod ViewTheorems
