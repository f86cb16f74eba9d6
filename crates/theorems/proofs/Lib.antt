-- The theorems about the definitions of passes, and the laws that the code's proofs cite.
-- renaming, colouring, the read set and contracting
pub mod Update
pub mod Actions
pub mod Create
pub mod Choice
pub mod Locations
pub mod ReadSet
pub mod Members
pub mod Lengths
pub mod Reduced
-- the pool is never empty
pub mod Pigeon
pub mod Pool
pub mod NeverEmpty
-- a colour becomes free at a source
pub mod Due
-- how full the registers get
pub mod Fullest
pub mod SameColours
-- demand 3
pub mod Ends
pub mod Sim
pub mod Assign
pub mod Writes
pub mod Saves
pub mod OneRecord
pub mod Steps
pub mod Rows
pub mod Past
pub mod Landing
pub mod Jumps
pub mod Preserved
