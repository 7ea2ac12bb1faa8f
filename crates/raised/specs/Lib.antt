pub mod Levels
pub mod Tables
pub mod Runs
pub mod RaisedKeeps
