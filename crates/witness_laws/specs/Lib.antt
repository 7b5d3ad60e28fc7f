pub mod Exchange
pub mod Shown
pub mod Runs
