pub mod Places
pub mod Dictionaries
pub mod Buckets
pub mod Held
pub mod Makings
pub mod DictionariesLemmas
pub mod PlacesLemmas
