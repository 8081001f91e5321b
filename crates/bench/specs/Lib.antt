pub mod Run
pub mod Call
pub mod Handed
pub mod Asking
pub mod Walk
