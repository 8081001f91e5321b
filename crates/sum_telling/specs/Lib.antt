pub mod Telling
pub mod Halves
pub mod Description
pub mod Numbers
