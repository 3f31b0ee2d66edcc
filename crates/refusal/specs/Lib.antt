pub mod Text
pub mod Tests
pub mod Answers
