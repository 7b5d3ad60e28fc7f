pub mod Behaving
pub mod Moments
pub mod Rows
pub mod Headline
pub mod Others
