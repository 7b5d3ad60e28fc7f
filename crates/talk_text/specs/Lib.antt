pub mod Talks
pub mod Judging
pub mod Machine
pub mod Saying
