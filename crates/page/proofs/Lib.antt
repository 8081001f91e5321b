pub mod Heading
pub mod Paging
