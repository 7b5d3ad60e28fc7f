pub mod Causes
pub mod Delivery
pub mod Timely
pub mod Honest
pub mod Quiet
