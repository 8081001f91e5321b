pub mod Samples
pub mod Result
pub mod Run
