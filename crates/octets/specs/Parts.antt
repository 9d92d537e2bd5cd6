-- Places in a list of octets: a part of it, and a write.
use Rattle.std.specs.Prelude.{ℕ, ◌+◌, ◌-◌, Bool, true, false, ◌&&◌, cond, List, [], ◌∷◌, ◌++◌, leb, eqb, length, take, drop}

-- `count` octets from place `from` on
abbrev pub part : List ℕ → ℕ → ℕ → List ℕ
part l from count = take count (drop from l)

-- the list l with d in the place of as many octets from place `at` on
unfoldable pub write : List ℕ → ℕ → List ℕ → List ℕ
write l at d = take at l ++ d ++ drop (at + length d) l

-- whether `count` octets from place `at` on are within the list
abbrev pub within : List ℕ → ℕ → ℕ → Bool
within l at count = leb at (length l) && leb count (length l - at)

-- whether a copy of `count` octets fits, in what it is copied to and in what it is copied from
abbrev pub copy_fits : List ℕ → ℕ → List ℕ → ℕ → ℕ → Bool
copy_fits to at source from count = within to at count && within source from count

-- the list after a copy of `count` octets of the source from place `from` on; as it was where that doesn't fit
unfoldable pub copied : List ℕ → ℕ → List ℕ → ℕ → ℕ → List ℕ
copied to at source from count = cond (copy_fits to at source from count) (write to at (part source from count)) to

-- whether two lists are equal
abbrev pub same : List ℕ → List ℕ → Bool
same [] [] = true
same [] (y ∷ m) = false
same (x ∷ l) [] = false
same (x ∷ l) (y ∷ m) = eqb x y && same l m

-- whether `count` octets from place `at` on are those of another list from place `from` on; not where they are past an end
unfoldable pub same_part : List ℕ → ℕ → List ℕ → ℕ → ℕ → Bool
same_part l at m from count = copy_fits l at m from count && same (part l at count) (part m from count)
