-- What words of marks, stage sets, digraphs, graphs and faults mean.
pub mod Marks
pub mod StageSets
pub mod Digraphs
pub mod Faults
pub mod FaultTexts
pub mod Graphs
pub mod Edits
pub mod Plans
