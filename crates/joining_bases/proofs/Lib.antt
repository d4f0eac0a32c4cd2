pub mod Pieces
pub mod Labels
pub mod Ready
pub mod Turns
pub mod Squares
pub mod Noting
