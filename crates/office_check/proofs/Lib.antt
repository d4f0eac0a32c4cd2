pub mod Walks
pub mod Copies
pub mod Loops
pub mod Answers
