-- Laws that rest on the entries of the tables: a wrong entry is refused by them.
pub mod BookLaws
pub mod TableLaws
