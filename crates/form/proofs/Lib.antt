pub mod HeaderRule
pub mod LineCount
pub mod Names
pub mod Recognising
pub mod RoundedUp
pub mod ShutOut
pub mod TwoForms
