pub mod Entries
pub mod Packing
pub mod Rising
pub mod CardRows
