pub mod Bytes
pub mod Reading
pub mod ReadTo
pub mod Rows
pub mod Spelled
pub mod Steps
pub mod TextBytes
