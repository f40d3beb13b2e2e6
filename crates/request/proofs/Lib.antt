pub mod IssuerSteps
pub mod IssuerLaws
pub mod KindLaws
pub mod RequestLaws
