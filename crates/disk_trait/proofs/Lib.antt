pub mod CallLemmas
pub mod CrashLemmas
pub mod FaultLemmas
pub mod FileLemmas
pub mod Looking
pub mod Moments
pub mod Steps
pub mod SurvivorLemmas
