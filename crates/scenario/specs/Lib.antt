-- What the fields of a scenario mean.
pub mod Lookups
pub mod Settings
pub mod Wiring
pub mod Totals
-- Which scenarios are sound.
pub mod Sound
