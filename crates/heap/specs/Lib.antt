pub mod Kind
pub mod Seen
pub mod Released
pub mod Undoable
pub mod Mark
pub mod Answer
pub mod Promises
