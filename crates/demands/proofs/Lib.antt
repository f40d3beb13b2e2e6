pub mod Blocks
pub mod RecordLength
pub mod Numbers
pub mod Sides
pub mod Holding
pub mod Marking
pub mod Names
pub mod Demands
