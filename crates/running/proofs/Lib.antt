mod ToldLemmas
mod ChainLemmas
mod Sending
mod RunLemmas
mod ServedSessionLemmas
