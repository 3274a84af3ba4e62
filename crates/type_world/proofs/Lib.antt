mod ClassExamples
pub mod Bound
pub mod Decoded
pub mod Chains
mod Names
mod Counts
mod FullNames
mod Listed
mod TypeNames
mod TypeRefs
mod RowSearch
mod OtherNames
mod ChainSteps
mod Ascending
mod ByPlace
mod MemberRefs
mod Repetitions
mod PlaceLists
mod Judging
mod ClassRows
mod Meets
mod ProfileKept
mod RowMarks
mod CilBodies
mod BuiltIns
mod ComesBack
