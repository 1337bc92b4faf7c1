-- What is promised of the stacks and the memory, and what a division without a result raises.
pub mod Stacks
pub mod Memory
pub mod Stops
