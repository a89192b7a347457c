pub mod RoundedMap
pub mod Bounding
pub mod Derivative
pub mod CountedKinds
pub mod SlopeSums
pub mod Contracting
