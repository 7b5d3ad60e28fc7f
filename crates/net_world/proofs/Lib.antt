pub mod Placed
pub mod Queued
pub mod Boxed
pub mod Watched
pub mod Kept
pub mod Append
pub mod TiedSteps
pub mod Recent
