-- The second walk: from the parts of a record to the loop.
pub mod Sources
pub mod Dests
pub mod Record
pub mod Invariant
