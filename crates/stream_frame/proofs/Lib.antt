pub mod Cuts
pub mod Lengths
pub mod Histories
pub mod Hellos
pub mod Flushing
pub mod Receiving
