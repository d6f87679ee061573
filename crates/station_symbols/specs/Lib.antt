pub mod Packet
pub mod PacketLaws
