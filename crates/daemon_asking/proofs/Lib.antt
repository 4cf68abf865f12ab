mod JudgingLemmas
mod PassingLemmas
