pub mod Received
pub mod ReceivedLaws
pub mod Copy
pub mod Zeros
pub mod CodeLaws
pub mod Strides
pub mod EndLaws
