-- The theorems that rest on the definitions of specs/.
pub mod After
pub mod InPlace
pub mod MediumLaws
pub mod ReadyTurns
pub mod RunLaws
pub mod Stays
pub mod UntilLaws
pub mod Front
