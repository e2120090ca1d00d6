pub mod QtdCases
pub mod Coverage
pub mod HeadCases
pub mod HeadFields
pub mod SetupFields
