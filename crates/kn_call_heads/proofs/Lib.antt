pub mod FrameFacts
pub mod HeadFacts
pub mod SizeFacts
