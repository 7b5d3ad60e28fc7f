pub mod Fields
pub mod Table
pub mod Message
pub mod Parts
pub mod Ranges
pub mod Reading
pub mod Held
