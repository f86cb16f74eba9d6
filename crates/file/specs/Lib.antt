-- Public: the file.
pub mod File
-- what holds of it, and what holds its definitions
pub mod InFull
pub mod FileCases
