pub mod Wires
pub mod Shown
pub mod Telling
pub mod Stepping
pub mod Parameters
pub mod Sent
pub mod Making
