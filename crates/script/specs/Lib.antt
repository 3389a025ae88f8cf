pub mod BufferParts
pub mod Answer
pub mod FieldWords
pub mod Line
pub mod Script
