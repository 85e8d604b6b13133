pub mod Rowing
pub mod Answers
pub mod Reader
pub mod Feed
pub mod Chunks
pub mod Private
