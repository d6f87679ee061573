pub mod Front
pub mod Paths
pub mod PathTheorem
pub mod Returns
