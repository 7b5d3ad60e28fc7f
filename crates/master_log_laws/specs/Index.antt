pub mod Runs
pub mod Index
pub mod Follows
pub mod Late
pub mod Dates
pub mod Laws
