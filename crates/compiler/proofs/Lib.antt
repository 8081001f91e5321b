pub mod Joined
pub mod ItemLaws
pub mod StreamLaws
pub mod Rising
pub mod Held
pub mod Theorems
