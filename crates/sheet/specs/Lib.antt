-- What filing a price and reading a sheet mean.
pub mod Filings
pub mod FigureTexts
pub mod Kinds
pub mod Records
pub mod Readings
pub mod Stages
