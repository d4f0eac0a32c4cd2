pub mod Shapes
pub mod Noted
pub mod Kept
pub mod Walk
