pub mod Sets
pub mod Join
pub mod Extend
pub mod Rounds
pub mod Meaning
pub mod Bytes
pub mod Joining
