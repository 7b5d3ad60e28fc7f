pub mod Joined
pub mod Numbers
pub mod Fronts
pub mod Grown
pub mod Behind
pub mod OneTrace
pub mod Next
pub mod Either
mod Walks
