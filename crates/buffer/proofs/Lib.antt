pub mod Faults
pub mod Rising
pub mod Writing
pub mod Left
