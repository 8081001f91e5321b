pub mod Line
pub mod Gather
