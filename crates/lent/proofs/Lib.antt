pub mod Says
pub mod PromisedLent
