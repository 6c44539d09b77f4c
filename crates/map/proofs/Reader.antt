-- THE READER'S LOOPS: all lines tried, and their rows laid into the room.
pub mod AllLines
pub mod Laid
