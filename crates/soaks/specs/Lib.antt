-- What is promised: the text of a number's scenario, the sum of all rows, and what is written of a run.
pub mod Texts
pub mod Sums
pub mod Summaries
