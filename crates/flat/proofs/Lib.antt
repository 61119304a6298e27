pub mod Says
pub mod SaysPlanner
pub mod StandsLaws
pub mod BackLaws
pub mod AnyBits
pub mod SentLaws
pub mod SentPlanner
