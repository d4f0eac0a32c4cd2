pub mod Prefixes
pub mod Frames
pub mod Outers
pub mod Gram
pub mod Halves
