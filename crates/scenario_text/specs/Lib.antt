-- What is promised: what words and lines say, which texts are scenarios, and what is wrong with the others.
pub mod Keys
pub mod Heads
pub mod Links
pub mod Said
pub mod Grammar
pub mod Reads
pub mod Checks
pub mod Clashes
pub mod Judging
-- The code's own bookkeeping: what the reader keeps of the lines so far.
pub mod Collecting
pub mod LastSettings
pub mod Machine
