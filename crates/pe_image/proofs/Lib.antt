pub mod NumbersInARow
mod Stages
mod PlacesLemmas
mod HeaderLemmas
mod TableLemmas
mod RawLemmas
pub mod ReadBack
mod ValuesLemmas
mod WrittenLemmas
mod InputLemmas
mod FileLemmas
mod RangeLemmas
mod Promises
mod StairLemmas
mod FinderLemmas
