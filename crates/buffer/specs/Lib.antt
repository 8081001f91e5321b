pub mod Verdict
pub mod Room
pub mod Part
