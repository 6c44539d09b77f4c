pub mod Turned
pub mod Told
