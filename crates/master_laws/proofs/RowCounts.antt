pub mod Places
pub mod Kept
pub mod Phases
pub mod Goes
pub mod All
