pub mod Firsts
pub mod Resting
