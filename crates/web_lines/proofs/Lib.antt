mod GoingLemmas
mod HandingLemmas
mod JoiningLemmas
mod TakingLemmas
mod TurnLemmas
