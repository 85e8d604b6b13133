pub mod Packed
pub mod Answers
pub mod LineState
pub mod LentLine
pub mod LineAnswers
pub mod Told
