pub mod Talk
pub mod Model
pub mod Wiring
pub mod Data
