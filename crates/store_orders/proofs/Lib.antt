mod CheckingLemmas
mod ShowingLemmas
