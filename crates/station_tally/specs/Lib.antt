pub mod Tally
pub mod Words
pub mod TallyLaws
