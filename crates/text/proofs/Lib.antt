pub mod DigitLaws
pub mod Spelling
pub mod StrayCounts
pub mod LineLaws
pub mod Positions
pub mod Listed
pub mod Examples
pub mod Putting
