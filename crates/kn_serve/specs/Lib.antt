pub mod First
pub mod Programs
pub mod Sides
pub mod Working
