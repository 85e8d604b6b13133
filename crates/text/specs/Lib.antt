pub mod Digits
pub mod Spelling
pub mod Lines
pub mod Strays
pub mod Text
pub mod Listed
pub mod Writing
pub mod Private
