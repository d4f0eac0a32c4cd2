pub mod Spreading
pub mod Walks
pub mod Room
