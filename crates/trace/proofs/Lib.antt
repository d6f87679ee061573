-- The theorems that rest on the definitions of specs/.
pub mod Alone
pub mod Closed
pub mod Keep
pub mod Late
pub mod Readable
pub mod Received
pub mod Reception
pub mod Trace
