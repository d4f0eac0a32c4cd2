pub mod Ends
pub mod Counts
pub mod Answers
pub mod Promised
