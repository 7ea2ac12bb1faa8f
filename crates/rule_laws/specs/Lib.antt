pub mod Judging
pub mod Exactly
pub mod Made
pub mod Settled
pub mod Worked
pub mod Honest
pub mod Granted
