pub mod Entries
pub mod Answers
pub mod Parts
pub mod Commands
pub mod Steps
pub mod Traversal
pub mod Table
pub mod Stop
