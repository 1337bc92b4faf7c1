-- What is proved of the front of any bytes.
pub mod Ascii
pub mod Fronts
pub mod Eight
pub mod Turns
