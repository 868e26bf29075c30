pub mod StepLemmas
pub mod OthersLemmas
pub mod StirLemmas
pub mod KeepLemmas
pub mod OtherLemmas
pub mod StartLemmas
