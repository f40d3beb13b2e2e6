pub mod Partial
pub mod Lent
pub mod Judged
pub mod Written
pub mod Alone
pub mod Promise
