pub mod Fronts
pub mod Held
pub mod Judged
pub mod Apart
pub mod Ranges
pub mod Answered
pub mod Printed
pub mod RoundTrip
