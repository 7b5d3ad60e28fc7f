-- Which state a request names.
pub mod Naming
-- The turns of the master in a log.
pub mod Turns
