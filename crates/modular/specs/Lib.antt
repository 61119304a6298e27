pub mod Modulus
pub mod Promise
