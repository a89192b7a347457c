pub mod Unrolled
pub mod Steps
pub mod Ways
pub mod Tokens
pub mod PartTexts
pub mod LastFrames
pub mod StableOrder
pub mod LabelParts
mod Digits
mod Scans
mod Marks
mod OpenLists
mod Stops
mod ObjectTexts
mod TakenParts
mod Chains
mod FirstBytes
mod Beginnings
mod Living
mod Moving
mod MovingParts
mod MovingLists
mod InOrderTests
mod Resolving
mod MovingOn
mod Resuming
mod Answering
pub mod Agreeing
mod Arranging
mod Shuffles
mod Unarranged
mod PrintedRead
mod ShortNumbers
