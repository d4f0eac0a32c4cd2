pub mod Folds
