pub mod RunWords
