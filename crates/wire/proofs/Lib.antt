pub mod Maps
pub mod Rows
