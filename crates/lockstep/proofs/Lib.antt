pub mod Agreement
pub mod Cuts
pub mod Existence
pub mod Reading
pub mod Showing
pub mod Due
pub mod Serving
pub mod Filled
pub mod Growing
mod Example
