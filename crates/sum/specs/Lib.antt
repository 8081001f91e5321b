pub mod Operation
pub mod Words
pub mod Model
pub mod Meaning
pub mod Back
pub mod Address
pub mod Description
