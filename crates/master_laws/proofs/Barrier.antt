pub mod Scripts
pub mod Counting
pub mod Passing
pub mod Standing
pub mod Waiting
