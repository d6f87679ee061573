-- The theorems that rest on the definitions of specs/.
pub mod Looked
