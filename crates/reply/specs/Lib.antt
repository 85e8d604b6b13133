pub mod Status
pub mod Replies
pub mod Table
