pub mod Talk
pub mod Talks
pub mod Spoken
pub mod Follows
