-- Answers in numbers.
pub mod Answer
