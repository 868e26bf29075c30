pub mod Awaiting
pub mod Holding
pub mod Indexed
pub mod Keeping
pub mod Lists
