pub mod Choice
pub mod Splice
pub mod Machine
