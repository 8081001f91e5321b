pub mod Table
pub mod Answer
pub mod Back
pub mod Input
pub mod Telling
