pub mod Requests
pub mod Issuing
