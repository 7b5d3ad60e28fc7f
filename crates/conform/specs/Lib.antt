pub mod Plants
pub mod Asking
pub mod Notices
pub mod Sending
pub mod Standing
pub mod Checks
pub mod Following
