pub mod Choice
pub mod Names
pub mod Tags
pub mod Links
pub mod Sizes
pub mod Numbers
