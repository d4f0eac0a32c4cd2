pub mod Cases
pub mod Bounded
pub mod Listed
pub mod Steps
pub mod Sums
pub mod Binary
