-- WHAT A USER BELIEVES OF AN ALLOCATOR, as theorems about the calls of src/calls.rt, by subject. A caller knows of a call only its contract: `Makes`,
-- `HandsOut`, `TakesBack` (specs/Promises.antt). With any number of cache places; every premise is a line of its own, and proofs only cite.
pub mod Kept
pub mod Exactly
pub mod Lives
pub mod Figures
pub mod Machine
pub mod Frame
pub mod Edges
