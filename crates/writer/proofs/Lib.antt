pub mod StuffingLaws
pub mod WireLaws
pub mod MeasureLaws
pub mod NumberLaws
pub mod Table
pub mod RoundTrip
pub mod Unnamed
pub mod Calls
