pub mod Heads
pub mod Answers
pub mod Places
pub mod Readings
pub mod Fronts
pub mod Replies
pub mod Statuses
