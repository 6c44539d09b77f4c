-- The laws behind the proofs.
pub mod Laws
pub mod Bytes
