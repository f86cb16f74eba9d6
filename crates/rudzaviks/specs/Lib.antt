-- Public: what the exported functions answer, in one word.
pub mod Exports
-- what holds of it, and what holds its definitions
pub mod InFull
pub mod ExportCases
