pub mod Marks
pub mod Rows
pub mod Loops
pub mod Edits
pub mod NotLive
pub mod Columns
