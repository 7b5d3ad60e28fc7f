-- What it means that a slave takes a list of settings whole.
pub mod Taking
-- Where a slave stands after its lists, with what happens between them.
pub mod Runs
pub mod Course
