mod EditLemmas
mod PeersLemmas
mod RefusalLemmas
