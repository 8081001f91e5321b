pub mod Reading
pub mod Parts
pub mod Parsed
pub mod Repeats
