pub mod Fresh
pub mod FreshLaws
pub mod Start
pub mod StartLaws
pub mod Front
