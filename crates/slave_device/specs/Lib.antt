pub mod Wires
pub mod Devices
pub mod Made
pub mod Sending
