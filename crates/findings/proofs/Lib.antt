pub mod Walking
pub mod Members
pub mod Chunks
