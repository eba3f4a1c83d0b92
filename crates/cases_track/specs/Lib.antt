-- What the replayed texts of the program `track` are compared with. Definition: `Text`; law: `TextLaws`.
pub mod Text
pub mod TextLaws
