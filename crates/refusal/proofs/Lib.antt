pub mod Meanings
pub mod Digits
pub mod Lengths
pub mod Room
pub mod Theorems
