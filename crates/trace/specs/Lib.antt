pub mod Machine
pub mod Private
pub mod Cutting
