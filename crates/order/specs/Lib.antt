pub mod Grammar
pub mod Contexts
pub mod Misplaced
pub mod Watcher
pub mod Owners
pub mod OwnerKinds
pub mod inner
