pub mod Pieces
pub mod Spooling
pub mod Calling
