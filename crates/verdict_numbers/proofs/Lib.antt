pub mod RunsOfZeros
pub mod States
