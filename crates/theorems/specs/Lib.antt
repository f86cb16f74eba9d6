-- Public: the laws of reducing, each the clause of the law of its name in src/laws.rt.
pub mod Laws
pub mod Named
pub mod Rule
