-- `OnPaper` shows the claim over a list of deliveries, `MeaningOfRows` what each row says.
pub mod OnPaper
pub mod MeaningOfRows
