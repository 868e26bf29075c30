pub mod NumberLemmas
pub mod SimpleCommands
