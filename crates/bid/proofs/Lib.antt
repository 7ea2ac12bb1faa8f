pub mod RecordLaws
pub mod Told
