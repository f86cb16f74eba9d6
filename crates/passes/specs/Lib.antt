-- Public: what reducing a list means: the three passes, the plain machine, and the claims.
pub mod Create
pub mod Color
pub mod Contract
pub mod Machine
-- what holds each definition: cases by computation, and what the claims tell apart
pub mod Instructions
pub mod Promise
pub mod TenCases
pub mod StoredLists
pub mod MachineCases
pub mod BranchRuns
pub mod PoolCases
pub mod WideCases
pub mod FullCases
pub mod Arm
