mod BookLemmas
pub mod CrashLemmas
pub mod FrontLemmas
pub mod GoingLemmas
mod MeetLemmas
mod MetLemmas
pub mod MomentLemmas
mod OpeningLemmas
mod PeerLemmas
pub mod PromiseLemmas
mod RefusedLemmas
mod AskedLemmas
mod WatchLemmas
mod LookLemmas
