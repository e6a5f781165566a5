pub mod LawsToCite
mod Lists
mod Standing
mod Tables
mod Numbers
