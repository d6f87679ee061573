pub mod Any
pub mod Plain
pub mod PlainLaws
