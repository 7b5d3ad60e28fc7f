mod Bits
mod Ends
mod Flushing
mod Gathering
mod Hearing
mod Leaving
mod Places
