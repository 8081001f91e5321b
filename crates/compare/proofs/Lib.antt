pub mod Compare
pub mod Within
