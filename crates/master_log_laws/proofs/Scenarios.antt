pub mod Heard
pub mod Scenarios
