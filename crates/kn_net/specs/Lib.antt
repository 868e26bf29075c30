pub mod Ends
pub mod Run
pub mod Told
