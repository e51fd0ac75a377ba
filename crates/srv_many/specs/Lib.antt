pub mod Choice
pub mod Several
