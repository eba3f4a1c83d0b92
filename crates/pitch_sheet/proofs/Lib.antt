-- The round trips of a sheet: a wrong definition of its sections or of its length is refused by them.
pub mod RoundTripLaws
