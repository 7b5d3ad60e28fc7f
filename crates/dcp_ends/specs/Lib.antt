pub mod Kept
pub mod Events
pub mod Logs
pub mod Entries
