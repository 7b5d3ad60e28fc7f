pub mod Closed
pub mod Courses
pub mod Legal
