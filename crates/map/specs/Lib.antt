-- What the contracts cite, and what the claims of proofs/Maps.antt speak of.
pub mod Rows
pub mod Layout
pub mod Reading
pub mod Answer
pub mod Calls
pub mod Claims
pub mod Writing
pub mod Steps
pub mod Walk
