-- The last walk, src/contract.rt: from the parts of a record to the loop.
pub mod Outcomes
pub mod Partner
pub mod Written
pub mod Record
pub mod Colours
pub mod Marks
pub mod Invariant
