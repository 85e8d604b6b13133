pub mod Answers
pub mod LineState
pub mod LineAnswers
pub mod Told
