pub mod Untouched
pub mod Least
pub mod Carries
pub mod Squares
pub mod Differences
