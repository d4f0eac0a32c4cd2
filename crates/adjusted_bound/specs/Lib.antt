pub mod Boxes
pub mod Found
