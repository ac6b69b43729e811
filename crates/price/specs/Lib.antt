-- The two price kinds with the proofs of their laws, and the prices that a cost adds up.
pub mod Counts
pub mod Memories
pub mod Costs
pub mod Bounds
pub mod CountLaws
pub mod MemoryLaws
