pub mod Mending
pub mod Marks
