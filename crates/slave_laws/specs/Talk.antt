pub mod Plants
pub mod Desks
pub mod Benches
pub mod Meets
-- What fits a field of a message.
pub mod Ranges
pub mod Sends
