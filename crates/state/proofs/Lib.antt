pub mod Bits
pub mod ReadingBack
pub mod Theorems
pub mod Ways
