pub mod Events
pub mod EventsLaws
pub mod Sizes
