pub mod Refusal
pub mod Promise
pub mod Sizes
pub mod Strips
pub mod Plan
pub mod Check
pub mod Given
