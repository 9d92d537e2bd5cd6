use native.Mathlib.Omega.{arith}
use mathlib.Core.List.{List}
use mathlib.Core.Path.{◌≡◌, sym, ap, ◌∙◌}
use Prim.Native.Nat.{ℕ}
use lib.ListN.{drop}
use Rattle.hexadecimal.specs.Hex.{decoded_of, decoded_output}
use Rattle.rehearsal_lines.proofs.Channel.{all-behind}
use Rattle.rehearsal_lines.proofs.Laws.{too_short, too_long, no-space, no-opening, no-message, a-module}
use Rattle.rehearsal_lines.proofs.read_module.Goals as goal
use Rattle.rehearsal_lines.proofs.read_module.Goals.{After-decode, then-line-lt13-via-then-line-lt13, then-line-lt13-via-else-line-lt13+then-line-gt-LONGEST, then-line-lt13-via-else-line-lt13+else-line-gt-LONGEST+then-line-ne32}

read : (c : After-decode) → let a = c.args in
    (c.decode.result ≡ decoded_of (drop 11 a.line.now) a.room.now)
    × (c.decode.new.output ≡ decoded_output (drop 11 a.line.now) a.room.now)
read c =
    let a = c.args in
    let text = all-behind 11 a.line.now in (
      c.decode.ensures.0 ∙ ap (λ (t : List ℕ). decoded_of t a.room.now) text,
      c.decode.ensures.1 ∙ ap (λ (t : List ℕ). decoded_output t a.room.now) text,
    )

pub returns-then-line-lt13 : goal.returns-then-line-lt13
returns-then-line-lt13 c = elim c.then-line-lt13.branch [
  | then-line-lt13-via-then-line-lt13 w ↦ too_short c.args.line.now _ (omega arith)
  | then-line-lt13-via-else-line-lt13+then-line-gt-LONGEST w ↦ too_long c.args.line.now _ (omega arith)
  | then-line-lt13-via-else-line-lt13+else-line-gt-LONGEST+then-line-ne32 w ↦ no-space _ _ w.if-line-ne32.true
]

pub returns-in_default : goal.returns-in_default
returns-in_default c = no-opening _ _ (sym c.read_opening.ensures ∙ c.in_default.is)

pub returns-in_default-decode : goal.returns-in_default-decode
returns-in_default-decode c =
    let r = read (goal.at.returns-in_default-decode c).After-decode in
    let none = no-message _ _ (λ n e. c.in_default-decode.not-Ok n (r.0 ∙ e)) in
    (none.0, r.1 ∙ none.1)

pub returns : goal.returns
returns c =
    let l = c.args.line.now in
    let r = read (goal.at.returns c).After-decode in
    let all =
    a-module l _ (omega arith) (omega arith) (omega arith)
    (sym c.read_opening.ensures ∙ c.in-Some.is)
    (sym r.0 ∙ c.in-Ok.is) in
    (all.0, r.1 ∙ all.1)
