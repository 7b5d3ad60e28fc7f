-- What is promised: the reference of a scenario.
pub mod Lockstep
-- The code's own bookkeeping: rows behind one another, what inputs read, and what the slaves stand for on the way.
pub mod Cut
pub mod Feeds
pub mod Parts
pub mod Filling
