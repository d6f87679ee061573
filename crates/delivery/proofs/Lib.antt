-- The theorems that rest on the definitions of specs/.
pub mod Closing
pub mod Lost
pub mod Theorem
pub mod Two
