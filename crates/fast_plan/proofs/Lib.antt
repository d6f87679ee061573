-- The theorems that rest on the definitions of specs/.
pub mod Calm
pub mod Happens
pub mod Runs
pub mod Turned
