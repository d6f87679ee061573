pub mod Valid
pub mod AreaCheckLaws
pub mod Front
