pub mod DataMessage
