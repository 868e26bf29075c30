pub mod Steps
pub mod Unfinished
pub mod Room
pub mod Cuts
pub mod Refused
pub mod Answered
pub mod ReplyLengths
