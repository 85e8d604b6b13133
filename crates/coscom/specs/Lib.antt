pub mod Flags
pub mod Packet
pub mod Verdict
pub mod Answers
pub mod Conditions
