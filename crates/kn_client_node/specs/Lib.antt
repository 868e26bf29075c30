pub mod Texts
pub mod Streams
pub mod Nodes
pub mod Steps
pub mod Calls
pub mod Missing
