pub mod Cut
pub mod Grammar
pub mod Plan
pub mod Promise
pub mod Ring
pub mod Strips
pub mod Text
