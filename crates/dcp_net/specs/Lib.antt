pub mod Nets
pub mod Waits
pub mod Firsts
pub mod Scripts
