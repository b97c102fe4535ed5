-- What reading a field entry by entry asks and tells.
use Rattle.std.specs.Prelude.{false, List, ◌≡◌, ℕ, ◌+◌, ◌≤◌, ◌<◌, length, get_or, drop}
use Rattle.routes.specs.Route.{Prefix}
use Rattle.fields.specs.Field.{bytes_for, net_in, broken}
use Rattle.fields.specs.declared.entry.Entry.{Entry}

-- an entry is at a place of s
pub record EntryAt (s : List ℕ) (at : ℕ) : Type 0 where
  pub inside : at < length s
  pub len_ok : get_or s at 0 ≤ 32
  pub whole : at + 1 + bytes_for (get_or s at 0) ≤ length s

-- e is its prefix, and where the next one begins
pub record IsEntry (s : List ℕ) (at : ℕ) (e : Entry) : Type 0 where
  pub net : record { addr = e.addr; len = e.len } ≡ net_in (get_or s at 0) (drop (at + 1) s)
  pub prefix : Prefix e.addr e.len
  pub next : e.next ≡ at + 1 + bytes_for (get_or s at 0)

-- from a place of s on it is a field
pub record FieldFrom (s : List ℕ) (at : ℕ) : Type 0 where
  pub to : at ≤ length s
  pub whole : broken (drop at s) ≡ false
