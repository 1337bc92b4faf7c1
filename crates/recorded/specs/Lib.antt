-- What is counted of the cases, and what they end in.
pub mod Agreement
pub mod Ends
