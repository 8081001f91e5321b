pub mod Matter
pub mod Reduce
pub mod Telling
pub mod Description
