-- What is promised: how many bytes a message has.
pub mod Sizes
-- The code's own bookkeeping: the message in a slot.
pub mod Slots
