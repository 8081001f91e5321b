pub mod Lines
pub mod Slots
pub mod Lengths
pub mod Across
pub mod Answers
pub mod Splitting
