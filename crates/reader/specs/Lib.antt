pub mod Judging
pub mod Back
pub mod Relabelled
pub mod Meaning
pub mod Taking
