pub mod Signs
pub mod Written
