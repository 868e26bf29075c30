pub mod QueueLemmas
pub mod InletLemmas
