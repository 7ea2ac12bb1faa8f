pub mod Fields
pub mod File
pub mod Writing
pub mod Skipping
pub mod FileLaws
pub mod Files
pub mod FileKeeps
pub mod Parts
