-- WHAT A CALL DOES, to be read first: what a state offers, the steps, the search, where chunks stand, and then the calls.
pub mod Ops
pub mod State
pub mod Lists
pub mod Chunks
pub mod Steps
pub mod Search
pub mod Place
pub mod Calls
pub mod Making
