-- Runs of bytes that stand for themselves.
use Rattle.std.specs.Prelude.{ℕ, ◌==◌, nat_le, Bool, ◌&&◌, ◌||◌, not}

-- a byte that may be written with a backslash: it does not come behind the quote, or it is the backslash
abbrev pub may_have_escape : ℕ → Bool
may_have_escape c = nat_le c 34 || c == 92

-- a byte that does not stand for itself in a string
abbrev pub ends_run : ℕ → Bool
ends_run c = (c == 34 || c == 92) || not (nat_le 32 c && nat_le c 126)
