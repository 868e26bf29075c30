pub mod Frames
pub mod Readers
pub mod Missing
pub mod Cutters
pub mod Lines
pub mod Listings
