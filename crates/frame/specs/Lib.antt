-- What the contracts cite: digits, fields of them, lines of input, lines of output.
pub mod Hex
pub mod Field
pub mod Line
pub mod Answer
