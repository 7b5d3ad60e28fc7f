pub mod Live
pub mod Elsewhere
pub mod InStep
pub mod Outcomes
pub mod Bridge
