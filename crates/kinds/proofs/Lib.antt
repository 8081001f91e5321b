pub mod Rows
pub mod Ways
pub mod Told
pub mod Addresses
pub mod Places
