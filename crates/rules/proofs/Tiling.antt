-- THE TILING: chunks side by side, with no words; and the words that show them.
pub mod Chunks
pub mod Exact
pub mod Tags
pub mod Place
pub mod Bytes
pub mod Named
pub mod Sums
pub mod Facts
pub mod LiveSums
pub mod Fits
