-- What exchanges tell of a slave.
pub mod Taken
-- What may be asked after them.
pub mod Courses
pub mod Orders
