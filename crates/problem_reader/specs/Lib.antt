pub mod Steps
pub mod Storing
