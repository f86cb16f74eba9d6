-- Public: what `optimize` promises, in either form.
pub mod Optimize
pub mod Statics
-- what holds of it, and what holds its definitions
pub mod InFull
pub mod RoomCases
