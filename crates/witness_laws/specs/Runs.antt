pub mod Tables
pub mod Talk
pub mod Scenarios
pub mod References
pub mod Loop
pub mod Late
pub mod Fault
pub mod Facts
