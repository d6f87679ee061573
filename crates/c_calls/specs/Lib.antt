pub mod Calls
pub mod Numbers
pub mod CallLaws
pub mod CallTheorems
