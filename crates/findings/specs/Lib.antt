pub mod Findings
pub mod Walk
pub mod Shared
