pub mod Chunk
pub mod Merged
pub mod Found
pub mod Undone
pub mod Live
pub mod Log
