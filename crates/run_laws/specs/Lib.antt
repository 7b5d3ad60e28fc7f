pub mod Laws
pub mod Collecting
pub mod Headline
