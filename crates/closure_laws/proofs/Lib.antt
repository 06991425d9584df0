pub mod TreeLemmas
pub mod GoneLemmas
pub mod SoundLemmas
pub mod KeptLemmas
pub mod MadeLemmas
pub mod OrderedLemmas
pub mod PrintedLemmas
pub mod HeldLemmas
mod OutputLemmas
mod GivenLemmas
mod RequestLemmas
mod EndedLemmas
mod AnsweredLemmas
mod GoodLemmas
