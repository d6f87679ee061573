pub mod Window
pub mod MovedLaws
pub mod WindowLaws
