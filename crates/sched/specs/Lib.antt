pub mod Counter
pub mod Chunk
pub mod Block
pub mod Scheduler
pub mod Given
pub mod Promise
pub mod Parts
