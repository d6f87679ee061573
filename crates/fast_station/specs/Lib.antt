pub mod Forms
pub mod FormLaws
