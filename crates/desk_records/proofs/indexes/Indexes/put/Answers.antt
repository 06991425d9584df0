use Rattle.std.proofs.Common.{◌+◌, ◌∷◌, ◌++◌, [], ℕ, ap, ◌∙◌, arith}
use Rattle.std.specs.Prelude.{bytes_eq, if◌then◌else◌}
use Rattle.records.specs.Recorded.{Recorded}
use Rattle.desk_records.specs.Counted.{count_under, names_among, names_of}
use Rattle.desk_records.specs.Indexed.{Tables, group_at}
use Rattle.desk_records.proofs.indexes.Indexes.put.Goals as goal

pub returns-in-Err : goal.returns-in-Err
returns-in-Err c = (
  c.in-Err.ensures.classes.0,
  record {
    by_class = λ k. c.in-Err.ensures.classes.1 k ∙ ap (λ (t : Tables). group_at k t.by_class) c.self.view_is;
    by_path = λ k. c.in-Err.ensures.paths k ∙ ap (λ (t : Tables). group_at k t.by_path) c.self.view_is;
    named = λ class path.
        let more = c.in_ok-add_labels.ensures class path in
        let less = c.take_labels.ensures class path in
        let labels = ap (λ ls. names_among ls class path c.args.one.now) c.labels.ensures.labels in
        let is = ap (λ (t : Tables). count_under class path t.named) c.self.view_is in
        omega (arith, more, less, labels, is);
  },
)

pub returns : goal.returns
returns c =
    let r = c.args.one.now in
    let e : ℕ × Recorded = (c.args.number, r) in
    record {
      by_class = λ k. c.in_default.ensures.classes k
          ∙ ap (λ (t : Tables). if bytes_eq r.class.path k then group_at k t.by_class ++ e ∷ [] else group_at k t.by_class) c.self.view_is;
      by_path = λ k. c.in_default.ensures.paths k
          ∙ ap (λ (t : Tables). if bytes_eq r.path k then group_at k t.by_path ++ e ∷ [] else group_at k t.by_path) c.self.view_is;
      named = λ class path. c.in_ok-add_labels.ensures class path ∙ ap (λ (t : Tables). count_under class path t.named + names_of class path r) c.self.view_is;
    }
