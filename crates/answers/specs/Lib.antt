-- The effects and the refusals, by name and by number.
pub mod Effects
pub mod Refusals
