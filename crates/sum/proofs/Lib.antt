pub mod Past
pub mod Tables
pub mod Meanings
pub mod Sources
pub mod Walk
pub mod ReadingBack
pub mod Theorems
pub mod Ways
