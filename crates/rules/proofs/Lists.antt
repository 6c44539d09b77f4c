-- LISTS: rings of links over any link store, and searches along them.
pub mod Lists
pub mod Seg
pub mod Rings
pub mod Walk
pub mod Search
