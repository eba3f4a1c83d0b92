-- The exported calls. The frame call: definitions in `Export`; that its number is the refusal's in `ExportLaws`. The threshold call: `ThresholdExport`.
pub mod Export
pub mod ExportLaws
pub mod ThresholdExport
