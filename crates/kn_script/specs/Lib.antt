pub mod Texts
pub mod Lines
pub mod Pieces
pub mod Words
pub mod Script
pub mod Answers
pub mod Report
pub mod Spelling
