-- What is promised: where a trace differs or breaks off, and else the master with its report and its rows.
pub mod Expected
pub mod Differences
pub mod Replays
pub mod Visits
pub mod Laws
