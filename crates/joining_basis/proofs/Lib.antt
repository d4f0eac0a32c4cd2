pub mod Going
pub mod Walking
pub mod Latest
pub mod InRows
pub mod Known
pub mod Fits
