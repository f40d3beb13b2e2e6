pub mod TableLaws
pub mod TableFacts
pub mod PolicyFacts
pub mod LabelFacts
pub mod Stands
