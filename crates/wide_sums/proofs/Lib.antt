pub mod Floors
pub mod Tables
