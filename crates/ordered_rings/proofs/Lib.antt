pub mod Laws
pub mod Numbers
pub mod AtLeastZero
pub mod Total
pub mod Integers
pub mod Sizes
pub mod RootTwo
