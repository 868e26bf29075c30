pub mod TimesLemmas
pub mod RoundLemmas
pub mod HearingLemmas
pub mod ChoiceLemmas
pub mod FlowLemmas
pub mod RunLemmas
pub mod OpenLemmas
