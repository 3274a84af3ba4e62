pub mod NamedLemmas
mod TransferLemmas
mod Written
