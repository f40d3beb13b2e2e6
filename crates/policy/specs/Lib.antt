pub mod Index
pub mod Stand
