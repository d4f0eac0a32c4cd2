-- The lines that the programs write, and what it means to append to a text.
pub mod Appending
