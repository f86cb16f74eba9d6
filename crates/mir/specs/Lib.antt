-- Public: what a reader must believe of records, settings and the questions; the files go in document 01's order.
-- Inner stands apart: what only the functions inside say.
pub mod Records
pub mod Shapes
pub mod Renaming
pub mod Folds
pub mod Branches
pub mod Questions
pub mod Answers
-- what holds of them: laws, and cases that hold each definition
pub mod Laws
pub mod LimitCases
pub mod BranchCases
pub mod LeftCases
pub mod Inner
