pub mod EachListing
pub mod Places
pub mod Listings
