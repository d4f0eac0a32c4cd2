pub mod Shifted
pub mod Pushes
