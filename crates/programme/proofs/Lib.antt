pub mod Order
pub mod Rows
pub mod Lookup
pub mod Rules
pub mod Looked
pub mod Filling
pub mod Theorems
pub mod Examples
