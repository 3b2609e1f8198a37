pub mod Splitting
pub mod LineTexts
pub mod SetTexts
pub mod SectionTexts
pub mod BundleTexts
pub mod ReportedTexts
