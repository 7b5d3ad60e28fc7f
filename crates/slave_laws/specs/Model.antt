-- Where the model of a slave stands after a log.
pub mod Models
pub mod Tuned
-- The state to which the exchanges with a slave have led it.
pub mod Stages
pub mod Answering
