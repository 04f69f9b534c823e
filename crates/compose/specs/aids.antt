pub mod Searched
pub mod Worked
pub mod Verified
pub mod Replies
pub mod Counting
