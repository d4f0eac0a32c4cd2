pub mod Lines
pub mod SumLines
pub mod Answers
pub mod Texts
pub mod ReportLines
