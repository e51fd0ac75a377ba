pub mod Attributes
pub mod AttributeText
