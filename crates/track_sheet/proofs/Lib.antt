-- The theorem that writing accepts every track: a wrong definition of the sheet on paper is refused by it.
pub mod AcceptedLaws
