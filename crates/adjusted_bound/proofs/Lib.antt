pub mod Scanned
pub mod Coefficients
pub mod Boxes
pub mod Searched
pub mod Decided
pub mod Checked
