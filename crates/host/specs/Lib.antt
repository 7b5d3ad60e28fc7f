pub mod Hosting
pub mod Externals
pub mod Views
pub mod Seats
pub mod Hosts
pub mod Runs
