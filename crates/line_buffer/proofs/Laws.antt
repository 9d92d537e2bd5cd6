-- How a line's buffer holds a piece more: the three cases of `hold`.
use Prim.Native.Nat.{ℕ, ◌+◌, ◌≤◌, ◌<◌}
use mathlib.Core.List.{List}
use mathlib.Core.Path.{◌≡◌, refl}
use lib.ListN.{length}
use borrow.Author.Tests.{le-leb, lt-leb}
use Rattle.octets.specs.Parts.{copied}
use Rattle.line_buffer.specs.Buffer.{fits, held_after, held_line}

module _ (line : List ℕ) (held : ℕ) (piece : List ℕ) where
  pub hold-full : length line ≤ held → (length line ≡ held_after line held piece) × (line ≡ held_line line held piece)
  unfolding held_after held_line
  hold-full h = rw (le-leb (length line) held h) (refl, refl)

  pub hold-some : (n : ℕ) → held < length line → n ≡ fits line held piece
      → (held + n ≡ held_after line held piece) × (copied line held piece 0 n ≡ held_line line held piece)
  unfolding held_after held_line
  hold-some n h e = rw (lt-leb (length line) held h, e) (refl, refl)
