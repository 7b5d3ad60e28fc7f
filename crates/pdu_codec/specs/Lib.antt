-- what is promised
pub mod Refusals
pub mod Laws
-- how the code cuts bytes into fields
pub mod Pieces
pub mod Cuts
pub mod Facts
