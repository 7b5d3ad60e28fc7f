pub mod Honesty
pub mod Followed
pub mod Runs
pub mod Rounded
pub mod Collecting
pub mod Headline
