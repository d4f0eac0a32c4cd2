-- The line for a record.
pub mod Records
pub mod Arrivals
pub mod Reports
pub mod Tool
pub mod Sums
