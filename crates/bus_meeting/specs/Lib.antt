pub mod Net
pub mod Gather
pub mod Reach
pub mod Meet
pub mod Lines
