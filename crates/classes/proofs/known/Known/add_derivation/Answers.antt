use Rattle.std.proofs.Common.{rules, ◌≡◌, None, [], ◌∷◌, ◌++◌, refl, ap, sym, ◌∙◌}
use Rattle.std.specs.Prelude.{bytes_eq}
use Rattle.std.specs.Map.{lookup}
use Rattle.std.proofs.lemmas.List.Elements.{All-push}
use Rattle.indexmap.proofs.CallerLemmas.{insert_entry-new}
use Rattle.model.specs.Classes.{known_at}
use Rattle.classes.specs.Entries.{IsKeyed, admissions_of}
use Rattle.classes.proofs.EntryLemmas.{known_entries, admissions_of-push}
use Rattle.classes.proofs.known.Known.add_derivation.Goals as goal

key : (c : goal.Joined-none) → c.in_ok-path.path ≡ c.args.admitted.path
key c = search rules

absent : (c : goal.Joined-none) → lookup (bytes_eq c.in_ok-path.path) c.self.inside.derivations.entries ≡ None
absent c =
    let there : known_at (record { derivations = admissions_of c.self.inside.derivations.entries; sources = c.self.inside.sources }) c.args.admitted.path ≡ None = rw (← c.self.view_is) at c.requires.absent in
    ap (λ path. lookup (bytes_eq path) c.self.inside.derivations.entries) (key c)
    ∙ sym (known_entries c.args.admitted.path c.self.inside.sources c.self.inside.derivations.entries c.self.invariant) ∙ there

pushed : (c : goal.Joined-none) → c.insert.new.self.entries ≡ c.self.inside.derivations.entries ++ (c.in_ok-path.path, c.args.admitted) ∷ []
pushed c = c.in_ok-_none.ensures.entries ∙ insert_entry-new bytes_eq c.self.inside.derivations c.in_ok-path.path c.args.admitted (absent c)

pub invariant_of-self-2 : goal.invariant_of-self-2
invariant_of-self-2 c = rw (pushed c) (All-push IsKeyed c.self.inside.derivations.entries (c.in_ok-path.path, c.args.admitted) c.self.invariant (key c))

pub returns : goal.returns
returns c =
    let more : admissions_of c.insert.new.self.entries ≡ admissions_of c.self.inside.derivations.entries ++ c.args.admitted ∷ [] =
    ap admissions_of (pushed c) ∙ admissions_of-push c.self.inside.derivations.entries (c.in_ok-path.path, c.args.admitted) in
    rw (← c.self.view_is, more) refl
