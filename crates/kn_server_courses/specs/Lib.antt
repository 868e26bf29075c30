pub mod Courses
pub mod Holding
