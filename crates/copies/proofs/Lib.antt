pub mod Ring
pub mod NumberLaws
pub mod Laws
pub mod Says
pub mod Promised
pub mod PromisedFill
pub mod PromisedValues
pub mod PromisedNumber
