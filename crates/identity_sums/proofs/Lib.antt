pub mod Growth
pub mod Products
pub mod Claims
