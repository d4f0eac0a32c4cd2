pub mod Grew
pub mod Merged
