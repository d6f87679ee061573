pub mod Quick
pub mod Easy
