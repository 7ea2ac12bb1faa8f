pub mod Terms
pub mod Checks
pub mod Beside
pub mod Passing
