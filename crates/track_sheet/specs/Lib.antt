-- A track as a sheet. Definitions: `Accepted`, the claim that writing takes every track. Laws: `RowLaws`, every row of a frame is one that a sheet can hold; `AcceptedLaws`, the claim holds.
pub mod Accepted
pub mod RowLaws
