-- Public: Lent, the slices that `optimize` is lent. The rest is inner: no promise is made in these words.
pub mod Lent
pub mod Walks
