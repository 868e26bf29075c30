pub mod Ways
pub mod Facing
pub mod Laws
pub mod Sums
pub mod Faces
pub mod Wires
pub mod Pairs
pub mod Taken
