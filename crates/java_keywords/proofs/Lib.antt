pub mod Finding
pub mod KeywordTexts
