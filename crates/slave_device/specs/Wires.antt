pub mod Ids
pub mod Ports
pub mod Sending
pub mod Payloads
pub mod Receiving
pub mod Standing
