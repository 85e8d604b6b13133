pub mod Limits
pub mod Workout
pub mod Form
pub mod Answers
pub mod Encoding
pub mod Promises
pub mod Conditions
pub mod Private
