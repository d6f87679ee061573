pub mod Frameless
