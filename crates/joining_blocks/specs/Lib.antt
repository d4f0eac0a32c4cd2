pub mod Standing
pub mod Tables
