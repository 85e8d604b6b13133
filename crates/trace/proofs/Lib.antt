pub mod AnswerLaws
pub mod Counts
pub mod StrayLaws
pub mod FeedLaws
pub mod ChunkLaws
pub mod Cuttings
pub mod Calls
