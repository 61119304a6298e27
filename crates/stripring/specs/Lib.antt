pub mod InPlace
pub mod PromiseInPlace
pub mod PromisePlanner
pub mod Run
pub mod Hosted
pub mod Given
pub mod GivenRun
pub mod PromiseOverflow
