pub mod Faults
pub mod Calls
pub mod Memory
pub mod Turns
pub mod Tries
pub mod Outputs
pub mod Unwritten
pub mod Spools
