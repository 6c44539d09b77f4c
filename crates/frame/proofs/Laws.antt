-- THE LAWS of what the contracts cite: `Laws/X.antt` has those of `specs/X.antt`.
pub mod Hex
pub mod Field
pub mod Line
pub mod Answer
