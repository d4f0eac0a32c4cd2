pub mod Coefficients
pub mod Arrays
pub mod Problems
pub mod Held
pub mod Steps
