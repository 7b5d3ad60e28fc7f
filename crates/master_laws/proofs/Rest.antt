pub mod Resting
pub mod Events
