-- The laws of `best`: a wrong definition of the best candidate makes them false.
pub mod BestOfLaws
