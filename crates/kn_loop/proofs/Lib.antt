pub mod Covering
pub mod Giving
pub mod Making
pub mod Numbers
pub mod Once
pub mod Starting
pub mod Visiting
