pub mod ReplyLaws
pub mod StatusLaws
pub mod ReadsBack
pub mod StatusCalls
pub mod Table
pub mod Calls
