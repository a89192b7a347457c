pub mod NameLists
pub mod OneLimit
pub mod Order
pub mod Results
pub mod Depths
pub mod Soundness
pub mod Texts
pub mod Growth
