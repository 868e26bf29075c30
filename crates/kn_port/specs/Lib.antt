pub mod Answers
pub mod Journal
pub mod Keeping
pub mod Memory
pub mod Numbers
