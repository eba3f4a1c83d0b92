-- The settings: definitions in `Settings`, what accepted settings say in `SettingsLaws`.
pub mod Settings
pub mod SettingsLaws
