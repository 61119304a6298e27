pub mod Proved
pub mod Strips
