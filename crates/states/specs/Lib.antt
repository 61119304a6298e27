pub mod Refusal
pub mod State
pub mod Answer
pub mod Promise
