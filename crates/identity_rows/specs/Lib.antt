pub mod Spread
pub mod Walk
pub mod Bundles
