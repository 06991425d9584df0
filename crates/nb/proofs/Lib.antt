mod InputLemmas
mod WordLemmas
