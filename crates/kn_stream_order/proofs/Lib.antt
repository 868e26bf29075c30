pub mod QueueLemmas
pub mod OrderLemmas
pub mod StepLemmas
