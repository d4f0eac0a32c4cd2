pub mod Scanned
pub mod Promised
