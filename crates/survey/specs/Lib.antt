-- Public: what a survey answers; what records and the questions mean is in mir.
pub mod Beside
-- what holds of it
pub mod Pair
pub mod SurveyCases
