pub mod Outcome
pub mod Rowing
pub mod Holder
pub mod Feed
pub mod Private
