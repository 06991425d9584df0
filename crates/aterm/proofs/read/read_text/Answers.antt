use Rattle.aterm.proofs.Refusing.{no_strings, parts_read}
use Rattle.aterm.proofs.read.read_text.Goals as goal

pub returns-in_err-strings : goal.returns-in_err-strings
returns-in_err-strings c = no_strings c.args.text.now _ c.from_residual.result c.from_residual.ensures.1 c.in_err-strings.ensures

pub returns : goal.returns
returns c = parts_read c.args.text.now _ c.read_parts.result c.in_ok-strings.ensures c.read_parts.ensures
