pub mod Admission
pub mod Receiver
pub mod Call
pub mod Handed
pub mod Promise
pub mod Cases
pub mod Given
pub mod Overflow
