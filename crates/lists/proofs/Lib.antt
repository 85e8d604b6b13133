pub mod Cases
pub mod Splices
pub mod Lists
pub mod Tests
pub mod Before
pub mod Machines
