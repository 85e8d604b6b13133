pub mod Lease
pub mod Answers
pub mod Promises
pub mod Private
pub mod History
pub mod Leases
