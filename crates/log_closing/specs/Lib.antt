pub mod Close
pub mod CloseLaws
