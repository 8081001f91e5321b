pub mod Fields
pub mod Words
pub mod Back
pub mod Description
