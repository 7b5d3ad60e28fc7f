pub mod Contents
pub mod Spellings
pub mod Unlisted
