pub mod CountLemmas
pub mod LengthLemmas
pub mod RoomLemmas
pub mod MessageLemmas
