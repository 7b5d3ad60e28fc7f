-- what is promised
pub mod Codes
pub mod Words
pub mod Values
pub mod Names
pub mod Laws
