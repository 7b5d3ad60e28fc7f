-- what is promised
pub mod Lines
pub mod Words
pub mod Reasons
pub mod Reading
pub mod Refusals
pub mod Printed
pub mod Takers
pub mod Laws
-- how the code reads, step by step
pub mod Contents
pub mod Machine
pub mod Scan
