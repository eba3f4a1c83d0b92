-- What the program's divisions rest on. Laws: `QuotientLaws`.
pub mod QuotientLaws
