pub mod Benching
pub mod Theorems
