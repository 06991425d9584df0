use Rattle.aterm.proofs.Exact.{reading_is_exact}
use Rattle.aterm.proofs.laws.reading_is_exact.Goals as goal

pub returns : goal.returns
returns c = reading_is_exact
