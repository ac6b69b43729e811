-- The text that is printed of a sheet.
pub mod Lines
pub mod Texts
