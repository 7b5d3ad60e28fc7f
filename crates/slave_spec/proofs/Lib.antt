pub mod Lasting
pub mod Soundness
pub mod Enduring
pub mod Regular
pub mod Sizes
pub mod Walking
