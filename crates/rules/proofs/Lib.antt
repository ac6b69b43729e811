-- Searches, and from what the code asks to what the rules answer.
pub mod Searches
pub mod StageAnswers
pub mod StageWords
pub mod CoreAnswers
pub mod NeighbourAnswers
pub mod LinkSearches
pub mod LinkAnswers
pub mod WithinSets
