pub mod Halving
pub mod Turn
pub mod Apart
pub mod Dropped
pub mod Divides
pub mod Theorems
pub mod Examples
