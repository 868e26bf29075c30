mod AwaitedLemmas
mod HeldLemmas
pub mod IndexLemmas
mod LeastLemmas
