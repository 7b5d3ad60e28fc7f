pub mod Frames
pub mod Framing
pub mod Calls
pub mod Laws
pub mod Greetings
pub mod Links
pub mod Inlets
