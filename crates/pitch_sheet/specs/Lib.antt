-- The sheet's calls. Definitions: `Calls`, what each call says and leaves, and `Holds`, what a sheet can hold; laws: `CallsLaws`. The round trips: statements in `RoundTrip`, proved in
-- `RoundTripLaws` from `SheetReadLaws` (a sheet reads back) and `PageWrittenLaws` (an accepted page is a sheet).
pub mod Calls
pub mod CallsLaws
pub mod Holds
pub mod SheetReadLaws
pub mod PageWrittenLaws
pub mod RoundTrip
