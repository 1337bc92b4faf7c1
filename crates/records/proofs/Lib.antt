-- What is proved of the records of a table.
pub mod Counted
pub mod InTable
pub mod Sources
