pub mod Table
pub mod Strips
