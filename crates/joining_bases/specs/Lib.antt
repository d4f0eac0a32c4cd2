pub mod Parts
pub mod Nine
pub mod Settled
