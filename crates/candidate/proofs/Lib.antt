pub mod HolderLaws
pub mod Follows
pub mod ValueLaws
pub mod FeedLaws
pub mod Handed
pub mod FeedBounds
pub mod WholeLaws
pub mod OutcomeLaws
