pub mod Gram
pub mod Frame
pub mod Outer
