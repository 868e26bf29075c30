pub mod LineLemmas
pub mod TextLemmas
pub mod EventLemmas
pub mod HexLemmas
pub mod ReportLemmas
pub mod SpellingLemmas
