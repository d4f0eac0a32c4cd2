pub mod Tables
pub mod Bundles
