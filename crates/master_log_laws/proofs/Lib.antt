pub mod Asking
pub mod Index
pub mod Phases
pub mod Exchanges
pub mod Failures
pub mod Scenarios
pub mod Finish
pub mod Bound
