pub mod Refusals
pub mod Answer
pub mod Draft
