-- What holds of the logs of own slaves, as those of slaves whose model is not known.
pub mod Runs
pub mod Laws
pub mod Served
pub mod Serving
