pub mod Walks
pub mod Tiling
pub mod Clears
pub mod Neighbours
pub mod Undone
