-- The slaves of a scenario, as the laws speak of them.
pub mod Made
-- What is shown of them.
pub mod Holding
pub mod Emitting
pub mod Whole
