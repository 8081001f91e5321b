pub mod Naming
pub mod Heads
pub mod Lengths
pub mod Counting
pub mod Entering
pub mod Answers
pub mod Parted
pub mod Theorems
