pub mod Refusal
pub mod Ring
pub mod Number
pub mod Copies
pub mod Lent
pub mod Promises
pub mod Given
