pub mod Halves
pub mod Tables
pub mod Down
pub mod Runs
pub mod Numbers
pub mod Asked
