pub mod Items
pub mod Chains
pub mod Stream
pub mod Sent
