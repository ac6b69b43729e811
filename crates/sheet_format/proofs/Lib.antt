pub mod Bodies
pub mod Joins
pub mod Fits
pub mod Steps
pub mod Frames
pub mod Records
pub mod Reading
