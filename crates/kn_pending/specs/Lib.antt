pub mod Facing
pub mod Packets
pub mod Pending
pub mod Standings
