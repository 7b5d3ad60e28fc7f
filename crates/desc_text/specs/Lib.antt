-- What is promised: what words and lines say, which texts are descriptions, what is wrong with the others, and the canonical text.
pub mod Words
pub mod Items
pub mod Said
pub mod Reads
pub mod Judging
pub mod Canonical
-- The code's own bookkeeping: what the reader keeps of the lines so far.
pub mod Machine
