pub mod Finishing
pub mod Finished
pub mod Barriers
