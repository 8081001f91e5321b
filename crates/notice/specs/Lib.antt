pub mod Text
pub mod Notice
pub mod Split
