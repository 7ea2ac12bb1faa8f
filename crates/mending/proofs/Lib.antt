pub mod Steps
pub mod Tidied
pub mod Mended
pub mod Same
