pub mod LevelLists
pub mod RaisedLevels
