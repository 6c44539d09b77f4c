-- THE STEPS of a call, over any link store: what each leaves of a heap that was whole.
pub mod Store
pub mod Heap
pub mod Part
pub mod Steps
pub mod Calls
pub mod Release
pub mod Live
pub mod Emptying
pub mod Take
pub mod Make
pub mod Keep
