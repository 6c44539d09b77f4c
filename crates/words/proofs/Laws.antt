-- THE LAWS of what the contracts cite: `Laws/X.antt` has those of `specs/X.antt`.
pub mod Choice
pub mod Names
pub mod Tags
pub mod Links
pub mod Sizes
pub mod Numbers
