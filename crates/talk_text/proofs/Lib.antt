pub mod WholeLines
pub mod Messages
pub mod EventLines
pub mod Judged
pub mod Apart
pub mod Answered
pub mod Sayings
