pub mod Words
pub mod Codec
pub mod CodecLaws
