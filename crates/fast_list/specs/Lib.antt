pub mod Grown
pub mod Counted
pub mod Stretches
pub mod Sounding
pub mod Reaching
pub mod Course
pub mod Sharing
