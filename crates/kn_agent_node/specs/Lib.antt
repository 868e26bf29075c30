pub mod Waiting
pub mod Nodes
pub mod Steps
pub mod Calls
pub mod Answers
pub mod Announced
pub mod Missing
