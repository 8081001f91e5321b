pub mod Files
pub mod Page
