use Rattle.closure_laws.proofs.SoundLemmas.{served_is_sound}
use Rattle.closure_laws.proofs.repairs.served_is_sound.Goals as goal

pub returns : goal.returns
returns c = served_is_sound
