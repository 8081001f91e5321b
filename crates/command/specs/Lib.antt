pub mod Command
pub mod Reading
