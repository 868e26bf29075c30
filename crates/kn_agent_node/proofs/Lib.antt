pub mod StepLemmas
pub mod OthersLemmas
pub mod StirLemmas
pub mod KeepLemmas
pub mod KnownLemmas
pub mod StartLemmas
