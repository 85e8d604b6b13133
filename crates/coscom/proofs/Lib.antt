pub mod FlagLaws
pub mod PacketLaws
pub mod VerdictLaws
pub mod CodeLaws
pub mod Table
pub mod RoundTrip
pub mod Calls
pub mod Examples
