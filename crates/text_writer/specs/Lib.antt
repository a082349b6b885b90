-- What printing means, and the text of numbers.
pub mod Prints
