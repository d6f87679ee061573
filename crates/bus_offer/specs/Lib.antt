pub mod Offer
pub mod OfferLaws
pub mod Front
