pub mod FacingLemmas
pub mod PacketLemmas
pub mod PendingLemmas
pub mod QueueLemmas
pub mod ResetLemmas
pub mod StandingLemmas
