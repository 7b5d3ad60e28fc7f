pub mod Because
pub mod Laws
