pub mod Open
pub mod OpenLaws
pub mod RoundTrip
