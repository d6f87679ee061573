-- The laws of the code over the definitions of specs/.
pub mod MarkLaws
