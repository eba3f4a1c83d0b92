-- What a page holds. Definitions: `Page`; laws: `PageLaws`.
pub mod Page
pub mod PageLaws
