pub mod Same
pub mod Within
