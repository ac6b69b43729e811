-- What the planner is about, in its own words: loops, walks, moves and what they
-- keep, mates, reach, loop tests, prices and cheapest sets.
pub mod Loops
pub mod Walks
pub mod Moves
pub mod Mates
pub mod Reach
pub mod Kept
pub mod LoopTests
pub mod Prices
pub mod Cheapest
