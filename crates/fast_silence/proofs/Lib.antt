-- The theorems that rest on the definitions of specs/.
pub mod Bound
pub mod Jump
pub mod Rested
