-- Why the rules of one's own are lawful.
pub mod Switched
pub mod Watched
