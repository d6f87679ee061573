pub mod Octets
pub mod OctetsLaws
