pub mod Move
pub mod MoveLaws
pub mod AdvanceLaws
