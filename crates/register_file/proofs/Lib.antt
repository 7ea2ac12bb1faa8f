pub mod Undoes
pub mod FileCards
pub mod FileFields
pub mod Skipped
pub mod FileMeaning
pub mod FilePlaces
pub mod FileWritten
