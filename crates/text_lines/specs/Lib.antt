-- What is promised: lines, words and what words say; causes; what a call gave against its definition; the first line of a text that is refused.
pub mod Texts
pub mod Numbers
pub mod Names
pub mod Addresses
pub mod Identities
pub mod Counts
pub mod Causes
pub mod Outcomes
pub mod Readings
pub mod Printed
-- The code's own bookkeeping: a text line by line.
pub mod Runs
