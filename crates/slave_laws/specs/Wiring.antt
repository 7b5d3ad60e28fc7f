-- The wiring of a slave that is asked in order.
pub mod Wired
-- The numbers of its data messages.
pub mod Ordinals
pub mod Links
pub mod Back
pub mod RowParts
pub mod Reads
pub mod Reading
