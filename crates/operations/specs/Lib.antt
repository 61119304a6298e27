pub mod Lists
pub mod Refusal
pub mod Operation
pub mod Portion
pub mod List
pub mod Diff
pub mod Given
pub mod Promise
