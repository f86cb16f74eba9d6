-- The lent statics, src/statics.rt.
pub mod Entries
