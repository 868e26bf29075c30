pub mod Doors
pub mod Losses
pub mod Notes
pub mod Laws
pub mod Turns
pub mod Promises
