pub mod Lex
pub mod Letters
pub mod Examples
pub mod LetterAt
