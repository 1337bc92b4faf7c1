-- What stands at the front of any bytes.
pub mod Chars
pub mod Packed
pub mod Next
pub mod Reading
pub mod Private
