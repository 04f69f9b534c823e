pub mod ReplyOrder
pub mod NoOrders
pub mod Search
pub mod aids
