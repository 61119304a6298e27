pub mod AnswerSays
pub mod Rules
pub mod Says
pub mod Promised
pub mod PromisedStates
pub mod PromisedValues
