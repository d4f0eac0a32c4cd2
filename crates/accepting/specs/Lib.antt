pub mod Identity
pub mod Judgement
pub mod Bounds
pub mod RingBounds
pub mod RowOrder
