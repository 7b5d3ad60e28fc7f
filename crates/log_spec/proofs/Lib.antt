pub mod Channel
pub mod Turned
pub mod Moves
