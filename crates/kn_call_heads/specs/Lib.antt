pub mod OneFrame
pub mod OwnHeads
