pub mod Members
pub mod Stirring
