pub mod SettingsCases
pub mod SettingsLaws
pub mod Nothing
