pub mod Lists
pub mod Every
pub mod Texts
pub mod Tables
pub mod Parts
pub mod inner
