-- The laws of all walks together; those that serve src/contract.rt stand in the folder of its name.
pub mod Leaves
pub mod Walks
