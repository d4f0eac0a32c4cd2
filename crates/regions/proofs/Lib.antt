pub mod Compared
pub mod Reading
