pub mod Bench
pub mod Apart
pub mod Written
