pub mod Asked
pub mod Commands
pub mod Help
pub mod Numbers
pub mod Programs
pub mod Values
