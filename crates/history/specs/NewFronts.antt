-- What a new front begins with.
use Rattle.std.specs.Prelude.{◌≡◌, ℕ}
use Rattle.atomic_table.specs.Seated.{TableId}
use Rattle.logbook.specs.Pages.{Book}
use Rattle.history.specs.declared.log.FrontTokens.{FrontTokens}

-- these are the tokens of the front whose ledgers have these names and so many parts, whose tokens lie in this table, and whose history is this book
pub record AreTokensOf (calls parts stops : ℕ) (table : TableId) (book : Book) (tokens : FrontTokens) : Type 0 where
  pub calls_are : tokens.calls.name ≡ calls
  pub parts_are : tokens.calls.parts ≡ parts
  pub stops_are : tokens.stops.name ≡ stops
  pub table_is : tokens.log.table.shared.table_id ≡ table
  pub book_is : tokens.rows.seen.book ≡ book
