pub mod Walking
pub mod Through
pub mod Deciding
pub mod Moving
pub mod Reaching
pub mod Dropping
pub mod Costs
