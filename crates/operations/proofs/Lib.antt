pub mod Answered
pub mod ListLaws
pub mod PortionLaws
pub mod Says
pub mod Given
pub mod Refuses
pub mod Promised
pub mod PromisedValues
