pub mod OwedLaws
