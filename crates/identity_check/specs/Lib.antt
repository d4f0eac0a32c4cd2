pub mod Compare
pub mod Bundles
