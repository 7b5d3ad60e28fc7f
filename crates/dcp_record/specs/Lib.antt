pub mod Traces
pub mod EntryRefs
pub mod Puts
pub mod Refusals
pub mod Laws
pub mod Words
pub mod Cuts
pub mod Places
