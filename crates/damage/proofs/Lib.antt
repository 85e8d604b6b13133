pub mod Places
pub mod Slices
pub mod Example
pub mod Calls
