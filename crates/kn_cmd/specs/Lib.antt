pub mod Command
pub mod Input
pub mod Messages
pub mod Outcome
pub mod Question
pub mod Run
pub mod Status
