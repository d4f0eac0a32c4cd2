pub mod Parity
pub mod Gathering
pub mod Listing
pub mod Steps
