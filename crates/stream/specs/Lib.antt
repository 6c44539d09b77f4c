-- What the contracts cite: one read with its bytes fed, a whole run, and both where the bytes of reader and writer are known.
pub mod Stepping
pub mod Ran
pub mod Bytes
