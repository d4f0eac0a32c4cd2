pub mod Added
pub mod Lists
pub mod Joins
pub mod Fits
