pub mod Outcome
pub mod Reader
pub mod Chunk
pub mod Private
