pub mod Programme
pub mod Machine
pub mod Table
