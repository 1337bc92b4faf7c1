-- What is promised of an evaluation.
pub mod Lends
pub mod Answers
pub mod Text
