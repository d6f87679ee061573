pub mod Crc
pub mod Division
pub mod Register
pub mod Table
pub mod Cases
