-- A filter, and the addresses that it holds.
use Rattle.std.specs.Prelude.{ℕ, ◌-◌, Bool, List, ◌++◌, length, take, replicate}
use Rattle.filter_messages.specs.declared.FilterType.{FilterType}
use Rattle.filter_entries.specs.Entries.{unused, are_good}
use Rattle.proxy_filter.specs.declared.Filter.{Filter}

-- THE ADDRESSES HELD, "in order of adding"
abbrev pub held : Filter → List ℕ
held f = take f.count f.entries

-- the filter of a type that holds a list of at most 16 addresses; its other places are not in use
unfoldable pub holding : FilterType → List ℕ → Filter
holding kind l = record { kind = kind; count = length l; entries = l ++ replicate (16 - length l) unused }

-- A FILTER THAT ISN'T BAD
unfoldable pub is_good : Filter → Bool
is_good f = are_good f.count f.entries
