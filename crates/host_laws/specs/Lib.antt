pub mod Lockstep
pub mod Readings
pub mod Reports
