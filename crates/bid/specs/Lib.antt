pub mod Fields
pub mod Kept
pub mod Record
pub mod Read
pub mod FieldLaws
pub mod Parts
