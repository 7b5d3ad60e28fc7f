pub mod Watches
pub mod Heard
pub mod Collected
