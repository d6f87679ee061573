pub mod Hearing
pub mod NearLaws
pub mod HearingLaws
pub mod Sights
pub mod SightLaws
