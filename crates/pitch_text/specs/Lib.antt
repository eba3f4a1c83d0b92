-- Text as bytes. Definitions: `Decimal`, `Text`; laws beside them; `TextCaseLaws` has examples.
pub mod Decimal
pub mod DecimalLaws
pub mod Text
pub mod TextLaws
pub mod TextCaseLaws
