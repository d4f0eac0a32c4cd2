pub mod Escapes
pub mod Reads
