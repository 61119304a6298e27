pub mod Refusal
pub mod Ends
pub mod World
pub mod Plain
pub mod Promises
