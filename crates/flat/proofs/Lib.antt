pub mod TermArrays
pub mod Flat
