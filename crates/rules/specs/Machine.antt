-- THE RULES WITHOUT MEMORY.
pub mod Orders
pub mod Machine
