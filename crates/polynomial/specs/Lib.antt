pub mod Monomial
pub mod Terms
pub mod Algebra
pub mod Point
pub mod RingPoint
