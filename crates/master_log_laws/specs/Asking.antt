pub mod Closed
pub mod Legal
