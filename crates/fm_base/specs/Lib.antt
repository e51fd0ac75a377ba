pub mod Answer
pub mod Chain
pub mod Field
pub mod Input
pub mod Name
pub mod Parser
