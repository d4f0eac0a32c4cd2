pub mod Ring
pub mod Ranges
