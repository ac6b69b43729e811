-- The bytes of a graph sheet: entries, how a sheet is laid out, its first fault, and reading as a program.
pub mod Entries
pub mod Layout
pub mod Faulty
pub mod Reading
pub mod Promise
