pub mod Tables
pub mod Again
