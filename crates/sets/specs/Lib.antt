-- Inner: no promise is made in these words. Laws and SetCases are public: what the laws say of them.
pub mod Sets
pub mod Members
pub mod Laws
pub mod SetCases
