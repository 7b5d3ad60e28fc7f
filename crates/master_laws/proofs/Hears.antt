pub mod Reading
pub mod Decided
