-- What is promised of words, steps and runs.
pub mod Outcomes
pub mod Steps
pub mod Runs
