pub mod Broken
pub mod Beside
