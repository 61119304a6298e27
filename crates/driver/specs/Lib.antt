pub mod Drive
pub mod Run
pub mod Pending
pub mod Promise
