pub mod Messages
pub mod Channel
pub mod Log
pub mod Honest
pub mod Moves
pub mod Oldest
pub mod Laws
