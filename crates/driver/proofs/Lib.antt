mod Turns
pub mod DriveLaws
pub mod Used
pub mod Along
pub mod Rows
pub mod Says
pub mod Promised
pub mod PromisedSum
pub mod PromisedFill
pub mod PromisedRun
