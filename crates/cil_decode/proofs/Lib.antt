pub mod Sizes
mod Followed
mod Marked
mod Numbers
mod Fields
mod Encoded
mod Known
