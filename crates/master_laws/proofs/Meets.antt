pub mod Sends
pub mod Answers
pub mod Known
pub mod Asking
pub mod Only
