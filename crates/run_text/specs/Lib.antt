-- What is promised: the printed rows of a run and the line after them, what it means that a piece is put behind a text, and what is written of a run.
pub mod Puts
pub mod Rows
pub mod Closings
pub mod Runs
